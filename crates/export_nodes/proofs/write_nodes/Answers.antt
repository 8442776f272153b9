-- `write_nodes` meets its contract.
use Rattle.export_nodes.proofs.Writing.{writing_start, writing-room, writing_more, writing-end}
use Rattle.export_nodes.proofs.write_nodes.Goals as goal

pub loop-i-init : goal.loop-i-init
loop-i-init c = writing_start _ _ _ _ _ _ _

pub put_node-next-requires-clause-fits_out : goal.put_node-next-requires-clause-fits_out
put_node-next-requires-clause-fits_out c =
    writing-room c.args.ascii c.requires.lined c.loop-i.i c.loop-i-test.true c.loop-i.invariant c.requires.fits_out

pub loop-i-preserved : goal.loop-i-preserved
loop-i-preserved c =
    writing_more c.args.ascii c.requires.lined c.loop-i.i c.loop-i-test.true c.loop-i.invariant c.put_node-next.ensures c.put_node-next.auto.out

pub returns : goal.returns
returns c = writing-end _ _ _ _ _ c.loop-i.invariant c.loop-i-test.false
