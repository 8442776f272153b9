-- Laws of the first refusal of checks in their order.
use mathlib.Core.Path.{◌≡◌, refl, sym, ◌∙◌}
use mathlib.Core.List.{List, [], ◌∷◌, ◌++◌}
use Prim.Native.Nat.{ℕ, zero, suc}
use native.Mathlib.Omega.{arith}
use Rattle.codes.specs.Faults.{first_fault}

-- a check that refuses decides
fault-here : (n : ℕ) (l : List ℕ) → (n ≡ 0 → ⊥) → first_fault (n ∷ l) ≡ n
unfolding first_fault
fault-here zero l h = absurd (h refl)
fault-here (suc n) l h = refl

-- one that doesn't leaves it to those after it
fault-later : (n : ℕ) (l : List ℕ) → n ≡ 0 → first_fault (n ∷ l) ≡ first_fault l
unfolding first_fault
fault-later n l e = rw e

-- where none refuses the first doesn't
pub first-none : (n : ℕ) (l : List ℕ) → first_fault (n ∷ l) ≡ 0 → n ≡ 0
unfolding first_fault
first-none zero l h = refl
first-none (suc n) l h = absurd (omega arith)

-- nor one after it
pub rest-none : (n : ℕ) (l : List ℕ) → first_fault (n ∷ l) ≡ 0 → first_fault l ≡ 0
rest-none n l h = sym (fault-later n l (first-none n l h)) ∙ h

-- the answer r of the next check n, where it refuses
pub refuses : {r n : ℕ} (l : List ℕ) → r ≡ n → (r ≡ 0 → ⊥) → r ≡ first_fault (n ∷ l)
refuses {r} {n} l e h = e ∙ sym (fault-here n l (λ z. h (e ∙ z)))

-- where it doesn't
pub passes : {r n : ℕ} (l : List ℕ) → r ≡ n → r ≡ 0 → first_fault l ≡ first_fault (n ∷ l)
passes {r} {n} l e h = sym (fault-later n l (sym e ∙ h))

-- the answer of the last check
pub last-check : (n : ℕ) → n ≡ first_fault (n ∷ [])
unfolding first_fault
last-check zero = refl
last-check (suc n) = refl

-- the first of two lists of checks has a refusal: it decides
faults-front : (xs ys : List ℕ) → (first_fault xs ≡ 0 → ⊥) → first_fault (xs ++ ys) ≡ first_fault xs
unfolding first_fault
faults-front [] ys h = absurd (h refl)
faults-front (zero ∷ xs) ys h = faults-front xs ys h
faults-front (suc n ∷ xs) ys h = refl

-- it has none: the second decides
faults-back : (xs ys : List ℕ) → first_fault xs ≡ 0 → first_fault (xs ++ ys) ≡ first_fault ys
unfolding first_fault
faults-back [] ys h = refl
faults-back (zero ∷ xs) ys h = faults-back xs ys h
faults-back (suc n ∷ xs) ys h = absurd (omega arith)

-- where none of both refuses none of the first does
pub front-none : (xs ys : List ℕ) → first_fault (xs ++ ys) ≡ 0 → first_fault xs ≡ 0
unfolding first_fault
front-none [] ys h = refl
front-none (zero ∷ xs) ys h = front-none xs ys h
front-none (suc n ∷ xs) ys h = h

-- nor one of the second
pub back_none : (xs ys : List ℕ) → first_fault (xs ++ ys) ≡ 0 → first_fault ys ≡ 0
back_none xs ys h = sym (faults-back xs ys (front-none xs ys h)) ∙ h

-- the answer r of the first list of checks, where it has a refusal
pub front-refuses : {r : ℕ} (xs ys : List ℕ) → r ≡ first_fault xs → (r ≡ 0 → ⊥) → r ≡ first_fault (xs ++ ys)
front-refuses xs ys e h = e ∙ sym (faults-front xs ys (λ z. h (e ∙ z)))

-- where it has none
pub front-passes : {r : ℕ} (xs ys : List ℕ) → r ≡ first_fault xs → r ≡ 0 → first_fault ys ≡ first_fault (xs ++ ys)
front-passes xs ys e h = sym (faults-back xs ys (sym e ∙ h))

-- What holds of no refusal and of each check holds of the first refusal.
module _ (P : ℕ → Type 0) where
  -- of no checks
  pub none_in : P 0 → P (first_fault [])
  unfolding first_fault
  none_in h = h

  -- of a check and others
  pub first-in : (n : ℕ) (l : List ℕ) → P n → P (first_fault l) → P (first_fault (n ∷ l))
  unfolding first_fault
  first-in zero l h k = k
  first-in (suc n) l h k = h

  -- of two lists of checks
  pub front-in : (xs ys : List ℕ) → P (first_fault xs) → P (first_fault ys) → P (first_fault (xs ++ ys))
  unfolding first_fault
  front-in [] ys h k = k
  front-in (zero ∷ xs) ys h k = front-in xs ys h k
  front-in (suc n ∷ xs) ys h k = h
