-- `decode_7bit` meets its contract. The loop's invariant, `Going`: what is left to read from `i` on, above `value`, is the number at `at`.
-- A turn reads one byte of what is left, which ends past its start, so the measure, what is left of the file, falls.
use Prim.Native.Nat.{◌-◌}
use lib.ListN.{length}
use Rattle.read_binary.proofs.Decoded.{Going}
use Rattle.read_binary.proofs.decode_7bit.Given as goal

abbrev pub invariant-loop-i : goal.invariant-loop-i
invariant-loop-i l =
    Going l.f l.at l.value l.i

abbrev pub decreases-loop-i : goal.decreases-loop-i
decreases-loop-i l =
    length l.f - l.i
