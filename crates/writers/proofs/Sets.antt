-- Stores one after another.
use mathlib.Core.Path.{◌≡◌, refl, sym, ap, ◌∙◌}
use mathlib.Core.List.{List, [], ◌∷◌, ◌++◌}
use Prim.Native.Nat.{ℕ, suc, ◌+◌, ◌≤◌, ◌<◌}
use native.Mathlib.Omega.{arith}
use native.Mathlib.Numerals.{add-one}
use lib.ListN.{length, get_or, drop, set, length-append, length-set, drop_of_length-le}
use lib.Seq.{sets, drop-cons}
use Rattle.codes.specs.Lent.{laid}
use Rattle.writers.specs.Written.{Wrote}

module _ {A : Type 0} where
  -- A list is stored by storing its parts one after another.
  pub sets-append : (l : List A) (at : ℕ) (u v : List A) → sets l at (u ++ v) ≡ sets (sets l at u) (at + length u) v
  sets-append l at [] v = ap (λ (n : ℕ). sets l n v) (omega arith)
  sets-append l at (x ∷ u) v =
      sets-append (set l at x) (suc at) u v ∙ ap (λ (n : ℕ). sets (sets (set l at x) (suc at) u) n v) (omega arith)

  -- what stands before the stores stays
  sets-after : (a : A) (l : List A) (at : ℕ) (w : List A) → sets (a ∷ l) (suc at) w ≡ a ∷ sets l at w
  sets-after a l at [] = refl
  sets-after a l at (x ∷ w) = sets-after a (set l at x) (suc at) w

  -- What is stored from the start lies over the front.
  pub sets-laid : (l w : List A) → sets l 0 w ≡ laid w l
  unfolding laid
  sets-laid l [] = refl
  sets-laid [] (x ∷ w) = none (x ∷ w) 0
    where
      none : (w : List A) (at : ℕ) → sets {A = A} [] at w ≡ []
      none [] at = refl
      none (x ∷ w) at = none w (suc at)
  sets-laid (a ∷ l) (x ∷ w) = sets-after x l 0 w ∙ ap (λ m. x ∷ m) (sets-laid l w)

-- One byte is written by storing it.
pub wrote-byte : (l : List ℕ) (at a : ℕ) → Wrote l at (a ∷ []) (at + 1) (set l at a)
wrote-byte l at a = record { next = refl; bytes = refl }

-- Two writers one after the other write both their lists.
pub wrote_then : (l : List ℕ) (at : ℕ) (u v : List ℕ) {m k : List ℕ} {e r : ℕ} → Wrote l at u e m → Wrote m e v r k → Wrote l at (u ++ v) r k
wrote_then l at u v p q = record {
  next = q.next ∙ omega (arith, p.next, length-append u v);
  bytes = q.bytes ∙ rw (p.next, p.bytes) (sym (sets-append l at u v));
}

pub wrote-cons : (l : List ℕ) (at a : ℕ) (w : List ℕ) {k : List ℕ} {r : ℕ} → Wrote (set l at a) (at + 1) w r k → Wrote l at (a ∷ w) r k
wrote-cons l at a w q = wrote_then l at (a ∷ []) w (wrote-byte l at a) q

-- While a list is stored element by element: what is left to store gives all that is to be stored.
pub record Storing (old : List ℕ) (at : ℕ) (w out : List ℕ) (i : ℕ) : Type 0 where
  pub within : i ≤ length w
  pub long : length out ≡ length old
  pub left : sets old at w ≡ sets out (at + i) (drop i w)

pub storing-start : (old : List ℕ) (at : ℕ) (w : List ℕ) → Storing old at w old 0
storing-start old at w = record { within = omega arith; long = refl; left = ap (λ (n : ℕ). sets old n w) (omega arith) }

module _ {old : List ℕ} {at : ℕ} {w out : List ℕ} {i : ℕ} (s : Storing old at w out i) where
  pub storing-more : i < length w → Storing old at w (set out (at + i) (get_or w i 0)) (i + 1)
  storing-more h =
      let next : at + (i + 1) ≡ suc (at + i) = omega arith in
      record {
        within = omega arith;
        long = length-set out (at + i) (get_or w i 0) ∙ s.long;
        left = s.left ∙ rw (drop-cons w i 0, next, add-one);
      }

  pub storing-end : length w ≤ i → out ≡ sets old at w
  storing-end h = sym (s.left ∙ rw (drop_of_length-le w h))
