-- The invariant: the names from i on are left to write.
use lib.ListN.{drop}
use Rattle.writers.specs.Words.{spaced}
use Rattle.export_names.specs.Names.{names_at}
use Rattle.heading.proofs.Writing.{Writing, words}
use Rattle.head_names.proofs.put_names.Given as goal

abbrev pub invariant-loop-i : goal.invariant-loop-i
invariant-loop-i l =
    Writing l.initial.out l.at (spaced (names_at l.bytes l.starts l.lens)) l.out l.next (words (drop l.i (names_at l.bytes l.starts l.lens)))
