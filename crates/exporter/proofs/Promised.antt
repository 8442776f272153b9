-- What an export of which nothing is refused has for the writing of its file.
use mathlib.Core.Path.{◌≡◌, sym, ◌∙◌}
use mathlib.Core.List.{List}
use Prim.Native.Nat.{ℕ, ◌≤◌}
use native.Mathlib.Omega.{arith}
use lib.ListN.{length}
use lib.IntN.{ℤ}
use Rattle.codes.specs.Limits.{limits, var_limit}
use Rattle.store.specs.Store.{Store}
use Rattle.seats.specs.Seats.{Seats}
use Rattle.heading.specs.Tables.{Lent}
use Rattle.exported.specs.Export.{VarsIf, export_fault}
use Rattle.exported.proofs.Accepted.{accepted}

-- the table of variables is filled, and reaches as far as the order
pub vars-filled : (σ : Store) (roots : List ℤ) (order vars : List ℕ) (p : Lent) (slots numbers out k : ℕ)
    → k ≡ export_fault limits σ roots order p slots numbers out → k ≡ 0 → VarsIf k order vars → length vars ≡ var_limit
    → Seats order vars × (length order ≤ length vars)
vars-filled σ roots order vars p slots numbers out k e none v long =
    let A = accepted σ roots order p slots numbers out (sym e ∙ none) in
    (rw none at v, omega (arith, A.order_long, A.rules.sizes.levels_limit))
