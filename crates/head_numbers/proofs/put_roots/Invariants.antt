-- The invariant: the roots from the index on are left to write.
use mathlib.Core.List.{map}
use lib.ListN.{drop}
use Rattle.writers.specs.Decimal.{edge_text}
use Rattle.writers.specs.Words.{spaced}
use Rattle.export_nodes.specs.Tables.{line_number_of}
use Rattle.heading.proofs.Writing.{Writing, words}
use Rattle.head_numbers.proofs.put_roots.Given as goal

abbrev pub invariant-loop-root : goal.invariant-loop-root
invariant-loop-root l =
    Writing l.initial.out l.at (spaced (map edge_text (map (line_number_of l.numbers) l.roots))) l.out l.next
    (words (map edge_text (map (line_number_of l.numbers) (drop l.root-index l.roots))))
