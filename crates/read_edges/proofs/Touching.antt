-- In a list that is accepted each minus touches its digit.
use mathlib.Core.Path.{◌≡◌, refl}
use mathlib.Core.Bool.{Bool, true, false}
use mathlib.Core.List.{List, [], ◌∷◌, ◌++◌, append-nil}
use Prim.Native.Nat.{ℕ}
use native.Mathlib.Omega.{arith}
use lib.ListN.{length}
use lib.IntN.{ℤ}
use Rattle.codes.specs.Answer.{Read, value, refused}
use Rattle.codes.specs.Bytes.{is_blank}
use Rattle.read_lines.specs.Each.{none, each}
use Rattle.read_lines.specs.Spaced.{Blanks, Spaced, blanks, last, next}
use Rattle.read_lines.specs.Words.{Word}
use Rattle.read_lines.proofs.Spaced.{words-spaced}
use Rattle.read_numbers.specs.Digits.{Digits}
use Rattle.read_edges.specs.Edges.{edge_list, Pair, pair_of, children}
use Rattle.read_edges.specs.Entries.{behind, Signed, Entries, more, Touching, end, other, minus}
use Rattle.read_edges.proofs.Entries.{digit-no-minus}
use Rattle.read_edges.proofs.EdgeList.{edge-values-exact}

-- before bytes of which this holds: blanks,
blank-no-minus : (x : ℕ) → is_blank x ≡ true → x ≡ 45 → ⊥
unfolding is_blank
blank-no-minus x e z = let k : ◌≡◌ {A = Bool} (is_blank 45) true = rw z at e in let y : ◌≡◌ {A = ℕ} 0 1 = cc in omega arith

blanks-touching : {b s : List ℕ} → Blanks b → Touching s → Touching (b ++ s)
blanks-touching none t = t
blanks-touching (each {a = x} e k) t = other (blank-no-minus x e) (blanks-touching k t)

-- digits,
digits-touching : {d s : List ℕ} → Digits d → Touching s → Touching (d ++ s)
digits-touching none t = t
digits-touching (each e k) t = other (digit-no-minus e) (digits-touching k t)

-- and an entry
signed-touching : {w s : List ℕ} {m : Bool} {v : ℕ} → Signed w m v → Touching s → Touching (w ++ s)
signed-touching {s = s} {m = m} g t = rw g.is (of m g.digits g.some g.says.digits)
  where
    of : (m : Bool) (d : List ℕ) → (d ≡ [] → ⊥) → Digits d → Touching (behind m d ++ s)
    of m [] h k = absurd (h refl)
    of true (x ∷ d) h (each e k) = minus e (digits-touching (each e k) t)
    of false (x ∷ d) h k = digits-touching k t

spaced-touching : {at : ℕ} {s : List ℕ} {ws : List Word} {es : List ℤ} → Spaced at s ws → Entries ws es → Touching s
spaced-touching (blanks {b = b} h) k = rw append-nil at (blanks-touching {b = b} h end)
spaced-touching (last b w h t) (more g k) = blanks-touching h (rw append-nil at (signed-touching {w = w} g end))
spaced-touching (next b w h t e r) (more g k) = blanks-touching h (signed-touching g (spaced-touching r k))

-- A root list that is accepted,
pub list-touches : (max : ℕ) (s : List ℕ) {n : ℕ} → (edge_list max s).answer ≡ value n → Touching s
list-touches max s e = spaced-touching (words-spaced 0 s) (edge-values-exact max s e).0

-- and a child list.
pub children-touch : (s : List ℕ) {p : Pair} → children s ≡ value p → Touching s
unfolding children
children-touch s e = of (edge_list (length s) s).entries (edge_list (length s) s).answer refl e
  where
    of : {p : Pair} (es : List ℤ) (a : Read ℕ) → (edge_list (length s) s).answer ≡ a → pair_of es a ≡ value p → Touching s
    of es (value n) q z = list-touches (length s) s q
    of es (refused n) q z = absurd (let y : ◌≡◌ {A = ℕ} 0 1 = cc in omega arith)
