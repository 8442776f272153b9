-- `remember` meets its contract: each mark that it sets is right, since the edge's answer and the signs on the way give each node's.
use Rattle.store.specs.Held.{held}
use Rattle.tipping.proofs.Stepping.{Remembering}
use Rattle.tipping.proofs.remember.Given as goal

abbrev pub invariant-loop-i : goal.invariant-loop-i
invariant-loop-i l =
    Remembering (held l.store) l.setting l.initial.marks l.marks l.e l.n l.here

abbrev pub decreases-loop-i : goal.decreases-loop-i
decreases-loop-i l =
    l.n
