-- `walk` meets its contract: at each node the setting so far is right down to the node's level, and what the node is to answer is left.
use Rattle.store.specs.Held.{held}
use Rattle.example_walk.proofs.Stepping.{Stepping}
use Rattle.example_walk.proofs.walk.Given as goal

abbrev pub invariant-loop-n : goal.invariant-loop-n
invariant-loop-n l =
    Stepping (held l.store) l.root l.wanted l.initial.setting l.setting l.n l.asked

abbrev pub decreases-loop-n : goal.decreases-loop-n
decreases-loop-n l =
    l.n
