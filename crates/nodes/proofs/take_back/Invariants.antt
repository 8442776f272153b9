-- `take_back` meets its contract: each turn of the loop takes the newest node back, and the rules are kept on the way; the count falls, so
-- it ends.
use Rattle.codes.specs.Limits.{limits}
use Rattle.store.specs.Held.{held_mut, SameLists}
use Rattle.slots.proofs.Placed.{Returning}
use Rattle.nodes.proofs.take_back.Given as goal

abbrev pub invariant-loop-store : goal.invariant-loop-store
invariant-loop-store l = record {
  on_the_way : Returning limits (held_mut l.initial.store) l.to (held_mut l.store);
  same : SameLists l.initial.store l.store;
}

abbrev pub decreases-loop-store : goal.decreases-loop-store
decreases-loop-store l = l.store.count
