-- The invariant: the names of the variables at the levels from l on are left to write.
use lib.ListN.{length}
use Rattle.writers.specs.Words.{spaced}
use Rattle.export_names.specs.Names.{names_at}
use Rattle.heading.specs.Heading.{variables_from, chosen_names}
use Rattle.heading.proofs.Writing.{Writing, words}
use Rattle.heading.proofs.Variables.{variables_left}
use Rattle.head_names.proofs.put_ordered_names.Given as goal

abbrev pub invariant-loop-l : goal.invariant-loop-l
invariant-loop-l l =
    Writing l.initial.out l.at (spaced (chosen_names (variables_from (length l.order) 0 l.order) (names_at l.bytes l.starts l.lens))) l.out l.next
    (words (chosen_names (variables_left l.order l.l) (names_at l.bytes l.starts l.lens)))
