-- `is_order` meets its contract. The invariant: the first v entries are levels that differ, so that the others decide, and the table has
-- their variables.
use lib.ListN.{length}
use Rattle.variable_order.proofs.Ordering.{Ordering}
use Rattle.variable_order.proofs.is_order.Given as goal

abbrev pub invariant-loop-v : goal.invariant-loop-v
invariant-loop-v l =
    Ordering l.levels l.order (length l.initial.vars) l.vars l.v
