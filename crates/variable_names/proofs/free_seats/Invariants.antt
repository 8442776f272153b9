use lib.ListN.{length}
use Rattle.variable_names.proofs.Free.{Freeing}
use Rattle.variable_names.proofs.free_seats.Given as goal

abbrev pub invariant-loop-p : goal.invariant-loop-p
invariant-loop-p l =
    Freeing (length l.taken-items) l.permids l.initial.dst l.dst l.n l.p
