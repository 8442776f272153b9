use lib.ListN.{length}
use Rattle.variable_names.proofs.Free.{Supporting}
use Rattle.variable_names.proofs.supp_seats.Given as goal

abbrev pub invariant-loop-v : goal.invariant-loop-v
invariant-loop-v l =
    Supporting (length l.seat-items) l.ids l.initial.dst l.dst l.v
