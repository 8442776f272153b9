-- `parse_u32_list` meets its contract: at each word the entries so far lie in the lent list, and the words that are left decide.
use Rattle.read_lines.specs.Words.{words}
use Rattle.read_lines.specs.Left.{words_left}
use Rattle.read_lists.specs.Lists.{u32_of}
use Rattle.read_lists.proofs.Judge.{Laying}
use Rattle.read_lists.proofs.parse_u32_list.Given as goal

abbrev pub invariant-loop-word : goal.invariant-loop-word
invariant-loop-word l =
    Laying u32_of l.max (words 0 l.input) l.initial.dst l.dst l.n (words_left l.word-iterator)
