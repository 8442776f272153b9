-- The roots before the loop's index are put.
use Rattle.import_steps.proofs.RootsPut.{Put}
use Rattle.import_steps.proofs.put_roots.Given as goal

abbrev pub invariant-loop-r : goal.invariant-loop-r
invariant-loop-r l =
    Put l.ok l.edges l.initial.roots l.roots l.r-index
