-- What the check of an export promises.
use Rattle.std.specs.Prelude.{ℕ, ◌≡◌, List, ℤ}
use Rattle.codes.specs.Limits.{limits}
use Rattle.read_text.specs.declared.Place.{Place}
use Rattle.header_values.specs.Kinds.{of_place}
use Rattle.codes.specs.Lent.{Part, old, new}
use Rattle.store.specs.Store.{Store}
use Rattle.heading.specs.Tables.{lent}
use Rattle.exported.specs.Export.{export_fault, VarsIf}

-- `export_fault`
pub record FaultPromise (σ : Store) (roots : Part (List ℤ)) (order bytes starts lens rootstarts rootlens : Part (List ℕ)) (dd : Place)
    (slots numbers out : ℕ) (vars : Part (List ℕ)) (r : ℕ) : Type 0 where
  -- 'Export gives 1, 3, 4, 6, 5.'
  pub answer : r ≡ export_fault limits σ (old roots) (old order)
      (lent (old bytes) (old starts) (old lens) (old rootstarts) (old rootlens) (of_place dd)) slots numbers out
  -- the table of each level's variable, where nothing is refused
  pub vars_left : VarsIf r (old order) (new vars)
