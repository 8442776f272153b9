-- `distinct` meets its contract: the nodes below n are in the index, and none of them is like an older one.
use lib.ListN.{length}
use Rattle.store.specs.Held.{held}
use Rattle.unique_table.proofs.Built.{Built}
use Rattle.unique_table.proofs.distinct.Given as goal

abbrev pub invariant-loop-n : goal.invariant-loop-n
invariant-loop-n l =
    Built l.width (held l.store) l.store.count (length l.initial.index) l.index l.n
