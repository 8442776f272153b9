-- `eval_root` meets its contract: with no minus so far the walk gives the edge's own answer.
use Rattle.evaluation.proofs.Walk.{root-under}
use Rattle.evaluation.proofs.eval_root.Goals as goal

pub returns : goal.returns
returns c =
    root-under c.args.e c.requires c.eval_edge.ensures
