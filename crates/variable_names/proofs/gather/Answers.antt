-- `gather` meets its contract. The invariant: the entries at the first i seats lie in the lent list.
use Rattle.variable_names.proofs.Gathered.{laying-length, gathering-start, gathering-by, gathering-end}
use Rattle.variable_names.proofs.gather.Goals as goal

pub loop-i-init : goal.loop-i-init
loop-i-init c =
    gathering-start _ _ _

pub loop-i-preserved : goal.loop-i-preserved
loop-i-preserved c =
    rw c.put.ensures (gathering-by c.loop-i.invariant _ c.loop-i-test.true c.entry_at.ensures)

pub shape_of-dst : goal.shape_of-dst
shape_of-dst c =
    laying-length c.loop-i.invariant.laying

pub returns : goal.returns
returns c =
    gathering-end c.loop-i.invariant c.loop-i-test.false
