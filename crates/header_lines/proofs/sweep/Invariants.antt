-- `sweep` meets its contract: before each line the two lists hold the last values of the lines read, and what is left decides.
use Prim.Native.Nat.{◌-◌}
use lib.ListN.{length}
use Rattle.header_lines.proofs.Progress.{Progress}
use Rattle.header_lines.proofs.sweep.Given as goal

abbrev pub invariant-loop-at : goal.invariant-loop-at
invariant-loop-at l =
    Progress l.f l.starts l.ends l.at l.line

abbrev pub decreases-loop-at : goal.decreases-loop-at
decreases-loop-at l =
    length l.f - l.at
