use lib.ListN.{length}
use Rattle.variable_names.proofs.Free.{Ordering}
use Rattle.variable_names.proofs.ordered_seats.Given as goal

abbrev pub invariant-loop-v : goal.invariant-loop-v
invariant-loop-v l =
    Ordering (length l.seat-items) l.ids l.permids l.initial.dst l.dst l.n l.v
