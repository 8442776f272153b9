-- Edge lists: how a list ends by its words, the numbers of its entries in 64 bits, and what the code's answers say.
use mathlib.Core.Path.{◌≡◌, refl, sym, ◌∙◌}
use mathlib.Core.Bool.{Bool, true, false}
use mathlib.Core.List.{List, [], ◌∷◌}
use Prim.Native.Nat.{ℕ, zero, suc, ◌^◌, ◌≤◌, ◌<◌}
use native.Mathlib.Omega.{arith}
use lib.ListN.{length, get_or}
use lib.IntN.{ℤ, pos, neg_ℤ, ◌-ℤ◌, +ℤ_idl}
use lib.Dec.{eqb}
use mir.Syntax.{w64}
use mir.Val.{SFits, to_z, of_z}
use mir.Facts.{to_z_pos, to_z-of_z}
use borrow.Author.Tests.{eqb-true, eqb-false}
use Rattle.codes.specs.Answer.{Read, value, refused}
use Rattle.codes.specs.Lent.{laid}
use Rattle.read_lines.specs.Words.{Word, words}
use Rattle.read_lines.specs.Each.{Each, each}
use Rattle.read_lines.specs.Spaced.{Text}
use Rattle.read_lines.proofs.Spaced.{words-texts}
use Rattle.read_numbers.specs.declared.Role.TheVariants.{Magnitude}
use Rattle.read_numbers.specs.Number.{number}
use Rattle.read_numbers.proofs.Number.{number-below}
use Rattle.read_lists.specs.Lists.{Listed, listed}
use Rattle.read_lists.specs.Judged.{Reads, Judged}
use Rattle.read_lists.specs.Judged as judged
use Rattle.read_lists.proofs.Judged.{judged-judge, judge-judged}
use Rattle.read_edges.specs.Edges.{signed, with_sign, magnitude_of, after_minus, entry_bytes, entry_of, edge_list, pair, children}
use Rattle.read_edges.specs.Entries.{EntryAnswers, reads, over, strange, second, inside, alone, Entries, none, more}
use Rattle.read_edges.proofs.Entries.{entry-plain, entry-minus, answers-entry, entry-answers}

-- A magnitude below 2 ^ 63 is a signed number of 64 bits, and so is its negation, which the code takes from 0.
negated_fits : (v : ℕ) → v < 2 ^ 63 → SFits w64 (neg_ℤ (pos v))
negated_fits zero h = record { sfits = omega arith }
negated_fits (suc n) h = record { sfits = omega arith }

pub minus-fits : (v : ℕ) → v < 2 ^ 63 → SFits w64 (pos 0 -ℤ to_z w64 v)
minus-fits v h = rw (to_z_pos w64 h, +ℤ_idl) (negated_fits v h)

pub minus_is : (v : ℕ) → v < 2 ^ 63 → to_z w64 (of_z w64 (pos 0 -ℤ to_z w64 v)) ≡ neg_ℤ (pos v)
minus_is v h = to_z-of_z (minus-fits v h) ∙ rw (to_z_pos w64 h, +ℤ_idl)

pub signed-fits : (minus : Bool) (v : ℕ) → v < 2 ^ 63 → SFits w64 (signed minus v)
signed-fits true v h = negated_fits v h
signed-fits false v h = record { sfits = h }

-- what an answer of the code says of the definition
-- So is an entry that is read.
by_fits : (minus : Bool) (r : Read ℕ) {a : ℤ} → ((v : ℕ) → r ≡ value v → v < 2 ^ 63) → with_sign minus r ≡ value a → SFits w64 a
by_fits minus (value v) {a} h e = let k : a ≡ signed minus v = cc in rw k (signed-fits minus v (h v refl))
by_fits minus (refused n) h e = absurd (let z : ◌≡◌ {A = ℕ} 0 1 = cc in omega arith)

magnitude-fits : (minus : Bool) (d : List ℕ) {a : ℤ} → magnitude_of minus d ≡ value a → SFits w64 a
magnitude-fits minus d e = by_fits minus (number Magnitude (2 ^ 63) d) (λ v k. number-below Magnitude (2 ^ 63) d (omega arith) k) e

after-fits : (d : List ℕ) {a : ℤ} → after_minus d ≡ value a → SFits w64 a
after-fits [] e = absurd (let z : ◌≡◌ {A = ℕ} 0 1 = cc in omega arith)
after-fits (x ∷ d) e = magnitude-fits true (x ∷ d) e

pub entry-fits : (w : List ℕ) {a : ℤ} → entry_bytes w ≡ value a → SFits w64 a
unfolding entry_bytes
entry-fits [] e = magnitude-fits false [] e
entry-fits (x ∷ d) {a} e = of (eqb x 45) refl
  where
    of : (b : Bool) → eqb x 45 ≡ b → SFits w64 a
    of true k = after-fits d (sym (entry-minus x d (eqb-true _ _ k)) ∙ e)
    of false k = magnitude-fits false (x ∷ d) (sym (entry-plain x d (eqb-false _ _ k)) ∙ e)

-- Words that are entries are read as their numbers, and no others are.
entries-read : {ws : List Word} {es : List ℤ} → Entries ws es → Reads entry_of ws es
entries-read none = judged.none
entries-read (more s k) = judged.more (answers-entry (reads s)) (entries-read k)

read-entries : {ws : List Word} {es : List ℤ} → Each (λ w. Text w.bytes) ws → Reads entry_of ws es → Entries ws es
read-entries Each.none judged.none = none
read-entries (each {a = w} t k) (judged.more {fs = es} e l) = of (entry-answers w.bytes t.some) e (read-entries k l)
  where
    of : {r : Read ℤ} {a : ℤ} {ws : List Word} {es : List ℤ} → EntryAnswers w.bytes r → r ≡ value a → Entries ws es → Entries (w ∷ ws) (a ∷ es)
    of {a = a} (reads {minus = m} {v = v} s) q j = let z : a ≡ signed m v = cc in rw z (more s j)
    of (over m i p) q j = absurd (let z : ◌≡◌ {A = ℕ} 0 1 = cc in omega arith)
    of (strange m i f h) q j = absurd (let z : ◌≡◌ {A = ℕ} 0 1 = cc in omega arith)
    of (second r i) q j = absurd (let z : ◌≡◌ {A = ℕ} 0 1 = cc in omega arith)
    of (inside m i f s h) q j = absurd (let z : ◌≡◌ {A = ℕ} 0 1 = cc in omega arith)
    of (alone i) q j = absurd (let z : ◌≡◌ {A = ℕ} 0 1 = cc in omega arith)

module _ (max : ℕ) (s : List ℕ) where
  -- A list ends as its words are judged, and in no other way.
  pub edge-judged : Judged entry_of max [] (words 0 s) (edge_list max s)
  unfolding edge_list
  edge-judged = judge-judged entry_of max [] (words 0 s) (omega arith)

  pub judged-edge : {r : Listed ℤ} → Judged entry_of max [] (words 0 s) r → edge_list max s ≡ r
  unfolding edge_list
  judged-edge k = judged-judge entry_of max [] (words 0 s) k

  -- It is accepted where its words are entries, at most max, and then has their numbers;
  pub edge-values : {es : List ℤ} → Entries (words 0 s) es → length es ≤ max → edge_list max s ≡ listed (value (length es)) es
  edge-values k h = judged-edge (judged.whole (entries-read k) h)

  -- and nowhere else.
  pub edge-values-exact : {n : ℕ} → (edge_list max s).answer ≡ value n
      → Entries (words 0 s) (edge_list max s).entries × (length (edge_list max s).entries ≤ max) × (n ≡ length (edge_list max s).entries)
  edge-values-exact e = of edge-judged e
    where
      of : {r : Listed ℤ} {n : ℕ} → Judged entry_of max [] (words 0 s) r → r.answer ≡ value n
          → Entries (words 0 s) r.entries × (length r.entries ≤ max) × (n ≡ length r.entries)
      of (judged.whole k h) q = (read-entries (words-texts 0 s) k, h, cc)
      of (judged.fault front w rest i k h f) q = absurd (let z : ◌≡◌ {A = ℕ} 0 1 = cc in omega arith)
      of (judged.full front w rest i k h f) q = absurd (let z : ◌≡◌ {A = ℕ} 0 1 = cc in omega arith)

-- the first two of the entries that lie over two zeros
two-first : (es : List ℤ) → get_or (laid es (pos 0 ∷ pos 0 ∷ [])) 0 (pos 0) ≡ get_or es 0 (pos 0)
unfolding laid
two-first [] = refl
two-first (a ∷ es) = refl

two-second : (es : List ℤ) → get_or (laid es (pos 0 ∷ pos 0 ∷ [])) 1 (pos 0) ≡ get_or es 1 (pos 0)
unfolding laid
two-second [] = refl
two-second (a ∷ []) = refl
two-second (a ∷ b ∷ es) = refl

module _ (s : List ℕ) where
  pub children-read : {n : ℕ} {two : List ℤ} → value n ≡ (edge_list (length s) s).answer → two ≡ laid (edge_list (length s) s).entries (pos 0 ∷ pos 0 ∷ [])
      → value (pair n (get_or two 0 (pos 0)) (get_or two 1 (pos 0))) ≡ children s
  unfolding children
  children-read a l = rw (← a, l, two-first, two-second)

  pub children-refused : {n : ℕ} → refused n ≡ (edge_list (length s) s).answer → refused n ≡ children s
  unfolding children
  children-refused a = rw (← a)
