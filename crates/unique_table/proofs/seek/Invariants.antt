-- `seek` meets its contract: at each entry that it comes to, every node that it looks for is still to be met; and the numbers that it meets
-- rise, so it ends.
use Rattle.store.specs.Held.{held}
use Rattle.unique_table.proofs.Seeking.{Seeking, rest}
use Rattle.unique_table.proofs.seek.Given as goal

abbrev pub invariant-loop-n : goal.invariant-loop-n
invariant-loop-n l =
    Seeking l.width (held l.store) l.count l.index l.l l.t l.e l.k l.at l.n

abbrev pub decreases-loop-n : goal.decreases-loop-n
decreases-loop-n l =
    rest l.count l.n
