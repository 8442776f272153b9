-- The invariant: the roots passed are fit, so that the others decide.
use Rattle.export_faults.proofs.Roots.{RootsFrom}
use Rattle.export_faults.proofs.roots_fit.Given as goal

abbrev pub invariant-loop-root : goal.invariant-loop-root
invariant-loop-root l = RootsFrom l.count l.roots l.root-index
