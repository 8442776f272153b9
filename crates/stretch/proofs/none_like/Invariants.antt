-- `none_like` meets its contract: no node that was passed is like one of the little store.
use Rattle.store.specs.Held.{held}
use Rattle.stretch.specs.Chained.{LikeNone}
use Rattle.stretch.proofs.Passed.{PassedBy}
use Rattle.stretch.proofs.none_like.Given as goal

abbrev pub invariant-loop-at : goal.invariant-loop-at
invariant-loop-at l =
    PassedBy (held l.store) l.n (LikeNone (held l.store) (held l.nodes) l.nodes.count) l.at

abbrev pub decreases-loop-at : goal.decreases-loop-at
decreases-loop-at l =
    l.at
