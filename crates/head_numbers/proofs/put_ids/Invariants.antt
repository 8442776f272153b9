-- The invariant: the support variables from v on are left to write.
use mathlib.Core.List.{map}
use Rattle.writers.specs.Decimal.{decimal}
use Rattle.writers.specs.Words.{spaced}
use Rattle.heading.specs.Heading.{ids_from}
use Rattle.heading.specs.Tables.{seated_levels}
use Rattle.heading.proofs.Writing.{Writing, words}
use Rattle.heading.proofs.Variables.{remaining_ids}
use Rattle.head_numbers.proofs.put_ids.Given as goal

abbrev pub invariant-loop-v : goal.invariant-loop-v
invariant-loop-v l =
    Writing l.initial.out l.at (spaced (map decimal (ids_from (seated_levels l.seats) 0 l.order))) l.out l.next
    (words (map decimal (remaining_ids (seated_levels l.seats) l.order l.v)))
