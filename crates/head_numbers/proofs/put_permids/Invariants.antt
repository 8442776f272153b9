-- The invariant: the levels of the support variables from v on are left to write.
use mathlib.Core.List.{map}
use Rattle.writers.specs.Decimal.{decimal}
use Rattle.writers.specs.Words.{spaced}
use Rattle.heading.specs.Heading.{permids_of}
use Rattle.heading.specs.Tables.{seated_levels}
use Rattle.heading.proofs.Writing.{Writing, words}
use Rattle.heading.proofs.Variables.{levels_left}
use Rattle.head_numbers.proofs.put_permids.Given as goal

abbrev pub invariant-loop-v : goal.invariant-loop-v
invariant-loop-v l =
    Writing l.initial.out l.at (spaced (map decimal (permids_of (seated_levels l.seats) l.order))) l.out l.next
    (words (map decimal (levels_left (seated_levels l.seats) l.order l.v)))
