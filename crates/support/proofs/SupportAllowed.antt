-- The tests of `Support` say what they are for: ids and permids pass exactly where document 01 allows them.
use mathlib.Core.Path.{◌≡◌, refl, ap}
use mathlib.Core.Logic.{◌↔◌}
use mathlib.Core.Bool.{true}
use mathlib.Core.List.{List, [], ◌∷◌}
use Prim.Native.Nat.{ℕ, zero, suc, ◌<◌}
use native.Mathlib.Omega.{arith}
use lib.ListN.{length, get_or}
use borrow.Author.Tests.{ltb-true, lt-ltb}
use Rattle.codes.proofs.Bytes.{both}
use Rattle.seats.specs.Ordered.{ascending, distinct}
use Rattle.seats.proofs.OrderedLists.{ascending-ascends, distinct-once}
use Rattle.support.specs.Support.{IdsAllowed, PermidsAllowed, last_below, ids_fit, all_below, permids_fit}
use Rattle.support.proofs.Ascending.{ids-below}
use Rattle.support.proofs.Distinct.{all-below}

-- where the test of the last entry passes, the entry that has all others before it is below n
last-low : (n : ℕ) (l : List ℕ) → last_below n l ≡ true → (k : ℕ) → length l ≡ suc k → get_or l k 0 < n
unfolding last_below
last-low n [] b k e = absurd (omega arith)
last-low n (x ∷ []) b zero e = ltb-true x n b
last-low n (x ∷ []) b (suc k) e = absurd (omega arith)
last-low n (x ∷ y ∷ l) b zero e = absurd (omega arith)
last-low n (x ∷ y ∷ l) b (suc k) e = last-low n (y ∷ l) b k (omega arith)

-- where that entry is below n the test passes
last-tested : (n : ℕ) (l : List ℕ) → ((k : ℕ) → length l ≡ suc k → get_or l k 0 < n) → last_below n l ≡ true
unfolding last_below
last-tested n [] p = refl
last-tested n (x ∷ []) p = lt-ltb x n (p 0 refl)
last-tested n (x ∷ y ∷ l) p = last-tested n (y ∷ l) (λ k e. p (suc k) (ap suc e))

-- where each entry is below n the test of all entries passes
below-tested : (n : ℕ) (l : List ℕ) → ((i : ℕ) → i < length l → get_or l i 0 < n) → all_below n l ≡ true
unfolding all_below
below-tested n [] p = refl
below-tested n (x ∷ l) p = rw (lt-ltb x n (p 0 (omega arith))) (below-tested n l (λ i h. p (suc i) (omega arith)))

module _ (nvars : ℕ) (l : List ℕ) where
  -- the test of ids passes exactly those that strictly ascend and whose last is below the number of variables
  pub ids-allowed : (ids_fit nvars l ≡ true) ↔ IdsAllowed nvars l
  unfolding ids_fit
  ids-allowed = (
    λ h. let p = both (ascending l) (last_below nvars l) h in record { ascends = (ascending-ascends l).0 p.0; last = last-low nvars l p.1 },
    λ A. rw ((ascending-ascends l).1 A.ascends) (last-tested nvars l A.last),
  )

  -- so each of them is below it
  pub allowed-below : IdsAllowed nvars l → (i : ℕ) → i < length l → get_or l i 0 < nvars
  allowed-below A = ids-below nvars l (ids-allowed.1 A)

  -- the test of permids passes exactly those that are below the number of variables, none twice
  pub permids-allowed : (permids_fit nvars l ≡ true) ↔ PermidsAllowed nvars l
  unfolding permids_fit
  permids-allowed = (
    λ h. let p = both (all_below nvars l) (distinct l) h in record { below = all-below nvars l p.0; once = (distinct-once l).0 p.1 },
    λ A. rw (below-tested nvars l A.below) ((distinct-once l).1 A.once),
  )
