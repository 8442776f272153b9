-- A store without its chains: what numbering leans on.
use mathlib.Core.List.{List}
use Prim.Native.Nat.{ℕ}
use native.Mathlib.Omega.{arith}
use native.Mathlib.Nat.{le_refl}
use lib.IntN.{ℤ}
use Rattle.codes.specs.Limits.{limits}
use Rattle.store.specs.Store.{Store}
use Rattle.store.proofs.Lower.{nodes-lower}
use Rattle.reached.specs.Reached.{bare}
use Rattle.numbering.specs.Numbering.{Walkable}
use Rattle.heading.specs.Tables.{Lent}
use Rattle.exported.proofs.Accepted.{Accepted}

-- an accepted export can be numbered
pub bare-walkable : {σ : Store} {roots : List ℤ} {order : List ℕ} {p : Lent} {slots numbers out : ℕ}
    → Accepted limits σ roots order p slots numbers out
    → Walkable (bare σ) roots slots numbers
bare-walkable {σ} A =
    let sizes = A.rules.sizes in
    record {
      nodes = nodes-lower σ σ.count A.rules.nodes (le_refl σ.count);
      count_some = sizes.count_some;
      count_limit = sizes.count_limit;
      levels_limit = sizes.levels_limit;
      level_long = sizes.count_slots;
      then_long = omega (arith, sizes.count_slots, sizes.then_long);
      els_long = omega (arith, sizes.count_slots, sizes.els_long);
      roots_there = λ i h. record { some = (A.roots_there i h).some; there = (A.roots_there i h).there };
      slots_long = A.slots_long;
      numbers_long = A.numbers_long;
    }
