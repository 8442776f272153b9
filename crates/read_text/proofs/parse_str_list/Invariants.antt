-- `parse_str_list` meets its contract: at each word the places so far lie in the two lent lists, and the words that are left decide.
use Rattle.read_lines.specs.Left.{words_left}
use Rattle.read_text.proofs.NameLists.{Names}
use Rattle.read_text.proofs.parse_str_list.Given as goal

abbrev pub invariant-loop-at : goal.invariant-loop-at
invariant-loop-at l =
    Names l.max l.base l.input l.initial.starts l.initial.lens l.starts l.lens l.n (words_left l.at-iterator)
