-- `edges_of` meets its contract. The invariant: the roots before i lie in the lent list, as edges.
use Rattle.file_roots.proofs.RootEdges.{Edged}
use Rattle.file_roots.proofs.edges_of.Given as goal

abbrev pub invariant-loop-i : goal.invariant-loop-i
invariant-loop-i l =
    Edged l.roots l.initial.dst l.dst l.i
