-- The invariant: the names of the support variables from v on are left to write.
use Rattle.writers.specs.Words.{spaced}
use Rattle.export_names.specs.Names.{names_at}
use Rattle.heading.specs.Heading.{ids_from, chosen_names}
use Rattle.heading.specs.Tables.{seated_levels}
use Rattle.heading.proofs.Writing.{Writing, words}
use Rattle.heading.proofs.Variables.{remaining_ids}
use Rattle.head_names.proofs.put_supp_names.Given as goal

abbrev pub invariant-loop-v : goal.invariant-loop-v
invariant-loop-v l =
    Writing l.initial.out l.at (spaced (chosen_names (ids_from (seated_levels l.seats) 0 l.order) (names_at l.bytes l.starts l.lens))) l.out l.next
    (words (chosen_names (remaining_ids (seated_levels l.seats) l.order l.v) (names_at l.bytes l.starts l.lens)))
