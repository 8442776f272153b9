-- Bytes that stand in a file from a position on: where each of them stands, what is read of them, and what a search among them finds.
use mathlib.Core.Path.{◌≡◌, sym, ap, ◌∙◌}
use mathlib.Core.Bool.{Bool, true, false}
use mathlib.Core.List.{List, [], ◌∷◌, ◌++◌, append_assoc}
use Prim.Native.Nat.{ℕ, ◌+◌, ◌-◌, ◌<◌}
use native.Mathlib.Omega.{arith}
use lib.ListN.{length, get_or, drop, length-append, length-drop, get_or-append}
use lib.Seq.{drop-drop, get_or-drop, drop-append_seam, take-append_seam}
use Rattle.codes.specs.Answer.{Step, got, then}
use Rattle.header_lines.specs.Sweep.{part}
use Rattle.read_lines.specs.Each.{Each, none, each}
use Rattle.read_lines.specs.Line.{seek}
use Rattle.read_lines.proofs.Searches.{seek_found, seek-past}

-- What stands from the position on.
module _ (f : List ℕ) (at : ℕ) where
  -- the byte at the position
  pub stands-first : {x : ℕ} {r : List ℕ} → drop at f ≡ x ∷ r → get_or f at 0 ≡ x
  stands-first e = ap (λ (n : ℕ). get_or f n 0) (omega arith) ∙ sym (get_or-drop at f 0 0) ∙ rw e

  module _ (w r : List ℕ) (e : drop at f ≡ w ++ r) where
    -- what stands after the bytes w
    pub stands_after : drop (at + length w) f ≡ r
    stands_after = sym (drop-drop (length w) at f) ∙ rw e (drop-append_seam w r)

    -- they are a part of the file
    pub stands-part : part f at (at + length w) ≡ w
    stands-part = let k : at + length w - at ≡ length w = omega arith in rw (k, e) (take-append_seam w r)

    -- each of them is a byte of the file
    pub stands_at : (i : ℕ) → i < length w → get_or f (at + i) 0 ≡ get_or w i 0
    stands_at i h = sym (get_or-drop at f i 0) ∙ rw e (get_or-append w r 0 i h)

  -- a byte after them stands inside the file
  pub stands-inside : (w : List ℕ) (x : ℕ) (r : List ℕ) → drop at f ≡ w ++ (x ∷ r) → at + length w < length f
  stands-inside w x r e = omega (arith, sym (length-drop at f) ∙ ap length e ∙ length-append w (x ∷ r))

-- Wherever the bytes w stand in a file, they are read as a, up to the position after them.
pub record Reads {A : Type 0} (f : List ℕ) (read : ℕ → Step A) (w : List ℕ) (a : A) : Type 0 where
  pub back : (at : ℕ) (r : List ℕ) → drop at f ≡ w ++ r → read at ≡ got a (at + length w)

-- Bytes one after the other are read by one step after the other.
pub reads_then : {A B : Type 0} {f : List ℕ} {read : ℕ → Step A} (k : A → ℕ → Step B) {u v : List ℕ} {a : A} {b : B}
    → Reads f read u a → Reads f (k a) v b → Reads f (λ at. then (read at) k) (u ++ v) b
reads_then {f = f} k {u = u} {v = v} {b = b} p q =
    record {
      back = λ at r e.
          let h : drop at f ≡ u ++ (v ++ r) = e ∙ append_assoc u v r in
          let end : at + length u + length v ≡ at + length (u ++ v) = simp length-append (omega arith) in
          rw (p.back at (v ++ r) h) (q.back (at + length u) r (stands_after f at u (v ++ r) h) ∙ ap (got b) end);
    }

-- A search goes over bytes without the property and stops at the first that has it.
pub seek-over : (p : ℕ → Bool) (f : List ℕ) {w : List ℕ} (at x : ℕ) (r : List ℕ) → Each (λ y. p y ≡ false) w → p x ≡ true
    → drop at f ≡ w ++ (x ∷ r) → seek p f at (length f - at) ≡ at + length w
seek-over p f at x r none t e =
    seek_found p f at (length f) (omega (arith, stands-inside f at [] x r e)) (rw (stands-first f at e) t) ∙ omega arith
seek-over p f at x r (each {a = y} {l = w} h k) t e =
    seek-past p f at (length f) (omega (arith, stands-inside f at (y ∷ w) x r e)) (rw (stands-first f at e) h)
    ∙ seek-over p f (at + 1) x r k t (stands_after f at (y ∷ []) (w ++ (x ∷ r)) e)
    ∙ omega arith
