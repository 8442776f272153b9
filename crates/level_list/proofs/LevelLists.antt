-- Laws of the level list.
use mathlib.Core.Path.{◌≡◌}
use mathlib.Core.Logic.{◌↔◌}
use mathlib.Core.Bool.{true, false}
use mathlib.Core.List.{List}
use Prim.Native.Nat.{ℕ, ◌<◌}
use lib.ListN.{length, get_or}
use lib.Dec.{eqb}
use borrow.Author.Tests.{eq-eqb, ne_eqb, eqb-true}
use Rattle.codes.proofs.Bytes.{both}
use Rattle.support.specs.Support.{ids_fit, IdsAllowed}
use Rattle.support.proofs.Ascending.{ids-below}
use Rattle.support.proofs.SupportAllowed.{ids-allowed}
use Rattle.level_list.specs.List.{list_fits}

module _ (n m : ℕ) (l : List ℕ) where
  -- a list of another length doesn't fit
  pub miscounted : (length l ≡ n → ⊥) → list_fits n m l ≡ false
  unfolding list_fits
  miscounted h = rw (ne_eqb (length l) n h)

  -- one level per support variable: their order decides
  pub counted : length l ≡ n → list_fits n m l ≡ ids_fit m l
  unfolding list_fits
  counted h = rw (eq-eqb (length l) n h)

  -- the levels of a list that fits are below the level count
  pub list-levels : list_fits n m l ≡ true → (p : ℕ) → p < length l → get_or l p 0 < m
  unfolding list_fits
  list-levels h = ids-below m l (both (eqb (length l) n) (ids_fit m l) h).1

  -- Nothing is refused of a list exactly where it has one level per support variable, strictly ascending, below the level count.
  pub list-allowed : (list_fits n m l ≡ true) ↔ ((length l ≡ n) × IdsAllowed m l)
  unfolding list_fits
  list-allowed = (
    λ h. let w = both (eqb (length l) n) (ids_fit m l) h in (eqb-true (length l) n w.0, (ids-allowed m l).0 w.1),
    λ w. rw (eq-eqb (length l) n w.0) ((ids-allowed m l).1 w.1),
  )
