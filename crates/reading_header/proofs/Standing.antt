-- Bytes that stand in a file from a position on.
use mathlib.Core.Path.{◌≡◌, sym, ap, ◌∙◌}
use mathlib.Core.List.{List, [], ◌∷◌, ◌++◌, append_assoc}
use Prim.Native.Nat.{ℕ, ◌+◌, ◌<◌}
use native.Mathlib.Omega.{arith}
use lib.ListN.{length, get_or, take, drop, length-append, length-drop, take-append-drop, get_or-append}
use lib.Seq.{drop-drop, get_or-drop, drop-append_seam, take-append_seam}

module _ (f : List ℕ) (at : ℕ) where
  -- the byte at the position
  pub stands-first : {x : ℕ} {r : List ℕ} → drop at f ≡ x ∷ r → get_or f at 0 ≡ x
  stands-first e = ap (λ (n : ℕ). get_or f n 0) (omega arith) ∙ sym (get_or-drop at f 0 0) ∙ rw e

  module _ (w r : List ℕ) (e : drop at f ≡ w ++ r) where
    -- what stands after the bytes w
    pub stands_after : drop (at + length w) f ≡ r
    stands_after = sym (drop-drop (length w) at f) ∙ rw e (drop-append_seam w r)

    -- each of them
    pub stands-each : (i : ℕ) → i < length w → get_or f (at + i) 0 ≡ get_or w i 0
    stands-each i h = sym (get_or-drop at f i 0) ∙ rw e (get_or-append w r 0 i h)

  -- a byte after them stands inside the file
  pub stands-inside : (w : List ℕ) (x : ℕ) (r : List ℕ) → drop at f ≡ w ++ (x ∷ r) → at + length w < length f
  stands-inside w x r e = omega (arith, sym (length-drop at f) ∙ ap length e ∙ length-append w (x ∷ r))

-- A file has bytes there, whatever follows:
pub record Has (f : List ℕ) (at : ℕ) (s : List ℕ) : Type 0 where
  pub rest : List ℕ
  pub is : drop at f ≡ s ++ rest

-- those of a part that starts there,
pub has_part : (f : List ℕ) (n at : ℕ) {s : List ℕ} → take n (drop at f) ≡ s → Has f at s
has_part f n at e = record { rest = drop n (drop at f); is = sym (take-append-drop n (drop at f)) ∙ rw e }

module _ {f : List ℕ} {at : ℕ} where
  -- the first of them,
  pub has-less : (w s : List ℕ) → Has f at (w ++ s) → Has f at w
  has-less w s h = record { rest = s ++ h.rest; is = h.is ∙ append_assoc w s h.rest }

  -- and those after a byte that follows the first.
  pub has-next : (w : List ℕ) (x : ℕ) (s : List ℕ) → Has f at (w ++ (x ∷ s)) → Has f (at + length w + 1) s
  has-next w x s h =
      let n : at + length (w ++ (x ∷ [])) ≡ at + length w + 1 = omega (arith, length-append w (x ∷ [])) in
      let e : drop at f ≡ (w ++ (x ∷ [])) ++ (s ++ h.rest) = h.is ∙ simp append_assoc in
      record { rest = h.rest; is = rw n at (stands_after f at (w ++ (x ∷ [])) (s ++ h.rest) e) }

  -- They are the part from there to their end.
  pub has-front : {w : List ℕ} → Has f at w → take (length w) (drop at f) ≡ w
  has-front {w} h = rw h.is (take-append_seam w h.rest)
