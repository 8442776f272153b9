-- `find` meets its contract: the walk starts at the newest node of the bucket and passes every node of it that could have the level,
-- the then and the else; numbers fall along a chain, so it ends.
use Rattle.store.specs.Held.{held}
use Rattle.chains.proofs.Found.{Walking}
use Rattle.chains.proofs.find.Given as goal

abbrev pub invariant-loop-n : goal.invariant-loop-n
invariant-loop-n l = Walking (held l.store) l.l l.t l.e l.n

abbrev pub decreases-loop-n : goal.decreases-loop-n
decreases-loop-n l = l.n
