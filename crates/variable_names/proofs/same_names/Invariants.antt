-- `same_names` meets its contract. The invariant: the first i names are alike, and the rest decides.
use Rattle.variable_names.proofs.Alike.{NamesLeft}
use Rattle.variable_names.proofs.same_names.Given as goal

abbrev pub invariant-loop-i : goal.invariant-loop-i
invariant-loop-i l =
    NamesLeft l.f l.index l.starts l.lens l.index2 l.starts2 l.lens2 l.i
