-- `parse_edge_list` meets its contract: at each word the entries so far lie in the lent list, and the words that are left decide.
use Rattle.read_lines.specs.Words.{words}
use Rattle.read_lines.specs.Left.{words_left}
use Rattle.read_edges.specs.Edges.{entry_of}
use Rattle.read_lists.proofs.Judge.{Laying}
use Rattle.read_edges.proofs.parse_edge_list.Given as goal

abbrev pub invariant-loop-word : goal.invariant-loop-word
invariant-loop-word l =
    Laying entry_of l.max (words 0 l.input) l.initial.dst l.dst l.n (words_left l.word-iterator)
