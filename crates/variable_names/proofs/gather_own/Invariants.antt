use lib.ListN.{take}
use Rattle.variable_names.proofs.Gathered.{Gathering}
use Rattle.variable_names.proofs.gather_own.Given as goal

abbrev pub invariant-loop-i : goal.invariant-loop-i
invariant-loop-i l =
    Gathering (take l.n l.initial.dst) l.from l.initial.dst l.dst l.i
