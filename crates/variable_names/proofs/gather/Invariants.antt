-- `gather` meets its contract. The invariant: the entries at the first i seats lie in the lent list.
use Rattle.variable_names.proofs.Gathered.{Gathering}
use Rattle.variable_names.proofs.gather.Given as goal

abbrev pub invariant-loop-i : goal.invariant-loop-i
invariant-loop-i l =
    Gathering l.seats l.from l.initial.dst l.dst l.i
