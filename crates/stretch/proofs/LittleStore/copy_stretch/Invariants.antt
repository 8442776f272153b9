-- `copy_stretch` meets its contract: the slots below `slot` hold the nodes that were met.
use Prim.Native.Nat.{◌-◌}
use Rattle.store.specs.Held.{held}
use Rattle.stretch.specs.Chained.{stretch_slots}
use Rattle.stretch.proofs.Copying.{Copying}
use Rattle.stretch.proofs.LittleStore.copy_stretch.Given as goal

abbrev pub invariant-loop-at : goal.invariant-loop-at
invariant-loop-at l =
    Copying (held l.store) l.n l.self.level l.self.then l.self.els l.slot l.at

abbrev pub decreases-loop-at : goal.decreases-loop-at
decreases-loop-at l =
    stretch_slots - l.slot
