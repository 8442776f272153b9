-- `parse_digits` meets its contract: the digits that are left, after the value so far, give what the whole word gives.
use mathlib.Core.Path.{◌≡◌}
use Prim.Native.Nat.{◌+◌, ◌≤◌}
use lib.ListN.{drop}
use Rattle.codes.specs.Machine.{run}
use Rattle.codes.specs.Answer as num
use Rattle.read_numbers.specs.Number.{digit, number}
use Rattle.read_numbers.proofs.parse_digits.Given as goal

abbrev pub invariant-loop-x : goal.invariant-loop-x
invariant-loop-x l =
    (l.value ≤ l.max) × (number l.role (l.max + 1) l.input ≡ run (digit l.role (l.max + 1)) num.value l.value (drop l.x-index l.input))
