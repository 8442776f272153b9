-- `join` meets its contract: each turn of the loop is a step of the join's course, and the steps left get fewer.
use Rattle.store.specs.Held.{held_mut, SameLists}
use Rattle.join_course.specs.Pairs.{first_pairs, steps_left}
use Rattle.joining.proofs.Runs.{Runs}
use Rattle.joining.proofs.join.Given as goal

abbrev pub invariant-loop-result : goal.invariant-loop-result
invariant-loop-result l = record {
  runs : Runs l.width l.op (held_mut l.initial.store) l.a l.b (held_mut l.store) l.index l.cache l.waiting l.n l.pair.left l.pair.right l.result;
  same : SameLists l.initial.store l.store;
}

abbrev pub decreases-loop-result : goal.decreases-loop-result
decreases-loop-result l = steps_left l.store.levels (first_pairs l.waiting l.n) l.result
