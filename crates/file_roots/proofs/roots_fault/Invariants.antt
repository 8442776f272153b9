-- `roots_fault` meets its contract. The invariant: the roots before this one have no fault, so that the others decide.
use mathlib.Core.Path.{◌≡◌}
use lib.ListN.{drop}
use Rattle.file_roots.specs.Roots.{roots_fault}
use Rattle.file_roots.proofs.roots_fault.Given as goal

abbrev pub invariant-loop-r : goal.invariant-loop-r
invariant-loop-r l =
    roots_fault l.nnodes l.roots ≡ roots_fault l.nnodes (drop l.r-index l.roots)
