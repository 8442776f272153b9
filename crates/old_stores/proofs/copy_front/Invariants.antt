-- `copy_front` meets its contract: the entries before i are copied, and those from i on are as they were.
use Rattle.std.specs.Prelude.{◌≡◌, drop}
use Rattle.old_stores.proofs.Copying.{Front}
use Rattle.old_stores.proofs.copy_front.Given as goal

abbrev pub invariant-loop-i : goal.invariant-loop-i
invariant-loop-i g l =
    Front g.B.From.from_gives l.from l.to l.i × (drop l.i l.to ≡ drop l.i l.initial.to)
