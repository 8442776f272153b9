-- `zeros_kept` meets its contract: the answer so far is that of slot 1 and of the unused slots up to the one looked at.
use Rattle.old_stores.specs.Promises.{held_old}
use Rattle.old_stores.proofs.Judging.{ZerosTo}
use Rattle.store.specs.Keeps.{Decides}
use Rattle.old_stores.proofs.zeros_kept.Given as goal

abbrev pub invariant-loop-i : goal.invariant-loop-i
invariant-loop-i l =
    Decides l.zero (ZerosTo (held_old l.old) l.i)
