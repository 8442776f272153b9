-- `at_least` meets its contract. The invariant: the lengths so far are enough, so that the others decide.
use mathlib.Core.Path.{◌≡◌}
use lib.ListN.{drop}
use Rattle.header.specs.Header.{at_least}
use Rattle.stages.proofs.at_least.Given as goal

abbrev pub invariant-loop-n : goal.invariant-loop-n
invariant-loop-n l =
    at_least l.least l.lengths ≡ at_least l.least (drop l.n-index l.lengths)
