-- `other` meets its contract: the setting's byte at the node's level chooses the edge.
use native.Mathlib.Omega.{arith}
use Rattle.evaluation.proofs.Walk.{fits}
use Rattle.tipping.proofs.Reading.{other-read}
use Rattle.tipping.proofs.other.Goals as goal

pub overflow_cast-l : goal.overflow_cast-l
overflow_cast-l c =
    omega (arith, (fits c.requires.1 c.requires.0).level_low)

pub bounds-setting-l : goal.bounds-setting-l
bounds-setting-l c =
    (fits c.requires.1 c.requires.0).level_low

pub returns : goal.returns
returns c =
    other-read c.requires.1 c.requires.0 c.choose.ensures
