-- `left_of` is safe: where nothing is found before, the lists of variables are as long as `load` asks.
use Rattle.header.proofs.Lengths.{lists-long}
use Rattle.vectors_header.proofs.lists.left_of.Goals as goal

pub load-loaded-requires-clause-long_after : goal.load-loaded-requires-clause-long_after
load-loaded-requires-clause-long_after c =
    λ z. lists-long _ _ _ _ _ _ _ (c.found_before-before.ensures.roots_value z)
