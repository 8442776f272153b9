-- `lowest` meets its contract: above the node at hand no level tips, so the first that does is the lowest, and at node 1 there is none.
use Rattle.store.specs.Held.{held}
use Rattle.tipping.proofs.Stepping.{Descending}
use Rattle.tipping.proofs.lowest.Given as goal

abbrev pub invariant-loop-n : goal.invariant-loop-n
invariant-loop-n l =
    Descending (held l.store) l.setting l.initial.marks l.marks l.root l.n l.here

abbrev pub decreases-loop-n : goal.decreases-loop-n
decreases-loop-n l =
    l.n
