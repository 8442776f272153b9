-- `chain_alone` meets its contract: no node that was passed is like an older one.
use mathlib.Core.Path.{◌≡◌}
use lib.ListN.{length}
use Rattle.store.specs.Held.{held}
use Rattle.stretch.specs.Chained.{LikeNoOlder}
use Rattle.stretch.proofs.Passed.{PassedBy}
use Rattle.stretches.proofs.chain_alone.Given as goal

abbrev pub invariant-loop-at : goal.invariant-loop-at
invariant-loop-at l = record {
  passed : PassedBy (held l.store) l.n (LikeNoOlder (held l.store)) l.at;
  long : length l.index ≡ length l.initial.index;
}

abbrev pub decreases-loop-at : goal.decreases-loop-at
decreases-loop-at l =
    l.at
