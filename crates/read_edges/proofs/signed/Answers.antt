-- `signed` meets its contract: a magnitude below 2 ^ 63 has both signs.
use mir.Syntax.{w64}
use mir.Facts.{to_z_pos}
use Rattle.read_edges.proofs.EdgeList.{minus-fits, minus_is}
use Rattle.read_edges.proofs.signed.Goals as goal

pub overflow_sub-result : goal.overflow_sub-result
overflow_sub-result c =
    minus-fits _ c.requires

pub returns-then-minus : goal.returns-then-minus
returns-then-minus c =
    rw c.if-minus.true (minus_is _ c.requires)

pub returns-else-minus : goal.returns-else-minus
returns-else-minus c =
    rw c.if-minus.false (to_z_pos w64 c.requires)
