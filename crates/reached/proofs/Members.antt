-- The numbers of a list, one more at a time: what holds of each of them, and that none stands twice.
use mathlib.Core.Path.{◌≡◌, refl, sym, ap, ◌∙◌}
use mathlib.Core.Bool.{Bool, true, false, ◌||◌, or-false, or-true}
use mathlib.Core.Logic.{◌⊎◌, inl, inr, ⊎_elim}
use mathlib.Core.List.{List, [], ◌∷◌, ◌++◌}
use Prim.Native.Nat.{ℕ, ◌≤◌}
use borrow.Author.Tests.{eqb-true, eq-eqb, ne_eqb}
use lib.Dec.{eqb}
use Rattle.seats.specs.Seats.{seat_of}
use Rattle.seats.specs.Ordered.{distinct}
use Rattle.reached.specs.Meet.{is_in}
use Rattle.reached.proofs.Entries.{never, in-cons, in-append, once-append}

-- no number is in the empty list
pub in-none : (x : ℕ) → is_in x [] ≡ false
unfolding seat_of
in-none x = refl

module _ (x y : ℕ) (l : List ℕ) where
  -- with a last one a number is in a list if it was before or is that one
  pub in-more : is_in x (l ++ (y ∷ [])) ≡ (is_in x l || eqb x y)
  unfolding seat_of
  in-more = in-append x l (y ∷ []) ∙ ap (λ b. is_in x l || b) (in-cons x y [] ∙ or-false (eqb x y))

  -- the last one is in the list ..
  pub last-in : x ≡ y → is_in x (l ++ (y ∷ [])) ≡ true
  last-in e = rw (in-more, eq-eqb x y e, or-true (is_in x l))

  -- .. so is each that was before ..
  pub before-in : is_in x l ≡ true → is_in x (l ++ (y ∷ [])) ≡ true
  before-in h = rw (in-more, h)

  -- .. and any other is if it was
  pub before_same : (x ≡ y → ⊥) → is_in x (l ++ (y ∷ [])) ≡ is_in x l
  before_same h = rw (in-more, ne_eqb x y h, or-false (is_in x l))

-- of two tests one holds
pub either : (a b : Bool) → (a || b) ≡ true → (a ≡ true) ⊎ (b ≡ true)
either true b h = inl refl
either false b h = inr h

module _ (x y : ℕ) (l : List ℕ) where
  -- a number of a list is the first or in the rest
  pub cons-cases : is_in x (y ∷ l) ≡ true → (x ≡ y) ⊎ (is_in x l ≡ true)
  cons-cases h = ⊎_elim (λ e. inl (eqb-true x y e)) inr (either (eqb x y) (is_in x l) (sym (in-cons x y l) ∙ h))

  -- and the last or before it
  pub more-cases : is_in x (l ++ (y ∷ [])) ≡ true → (is_in x l ≡ true) ⊎ (x ≡ y)
  more-cases h = ⊎_elim inl (λ e. inr (eqb-true x y e)) (either (is_in x l) (eqb x y) (sym (in-more x y l) ∙ h))

-- a number from 1 to k
abbrev pub Among : ℕ → ℕ → Type 0
Among k x = (1 ≤ x) × (x ≤ k)

-- something holds of each number of a list
abbrev pub Each : (ℕ → Type 0) → List ℕ → Type 0
Each P l = (x : ℕ) → is_in x l ≡ true → P x

-- it holds of the empty list's
pub each_none : (P : ℕ → Type 0) → Each P []
each_none P x h = absurd (never h (in-none x))

-- and with one number more of which it holds
module _ (P : ℕ → Type 0) (n : ℕ) (l : List ℕ) (q : P n) (h : Each P l) where
  pub each-cons : Each P (n ∷ l)
  each-cons x k = ⊎_elim (λ e. rw e q) (h x) (cons-cases x n l k)

  pub each_more : Each P (l ++ (n ∷ []))
  each_more x k = ⊎_elim (h x) (λ e. rw e q) (more-cases x n l k)

-- none stands twice with a last one that wasn't there
pub once_more : (x : ℕ) (l : List ℕ) → is_in x l ≡ false → distinct l ≡ true → distinct (l ++ (x ∷ [])) ≡ true
unfolding distinct seat_of
once_more x l h k = once-append l (x ∷ []) k refl apart
  where
    apart : (y : ℕ) → is_in y l ≡ true → is_in y (x ∷ []) ≡ false
    apart y q = rw (in-cons y x [], ne_eqb y x (λ e. never (rw e at q) h))
