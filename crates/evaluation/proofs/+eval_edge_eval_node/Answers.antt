-- `eval_edge` and `eval_node` meet their contracts: an edge answers as its node, and a node as the child that the setting chooses, both under the
-- minuses so far.
use mathlib.Core.Path.{ap, ◌∙◌}
use lib.IntN.{nat_abs}
use Rattle.edges.specs.Edge.{minus}
use Rattle.evaluation.proofs.Walk.{walk-back, leaf-under, edge-under, then-under, else-under}
use Rattle.evaluation.proofs.+eval_edge_eval_node.Goals as goal

-- the sign and the node that the calls gave are those of the edge
pub eval_edge-returns : goal.eval_edge-returns
eval_edge-returns t c =
    edge-under _ _ _ c.args.e (c.is_minus-minus.ensures ∙ ap minus (walk-back c.args.e c.requires))
    (c.magnitude.ensures ∙ ap nat_abs (walk-back c.args.e c.requires)) c.eval_node.ensures

pub eval_node-returns-then-n-le1 : goal.eval_node-returns-then-n-le1
eval_node-returns-then-n-le1 t c = leaf-under _ _ c.args.odd c.args.n c.if-n-le1.true

pub eval_node-returns-then-is_yes : goal.eval_node-returns-then-is_yes
eval_node-returns-then-is_yes t c =
    then-under c.requires c.if-n-le1.false c.args.odd c.is_yes.ensures c.if-is_yes.true c.eval_edge.ensures

pub eval_node-returns-else-is_yes : goal.eval_node-returns-else-is_yes
eval_node-returns-else-is_yes t c =
    else-under c.requires c.if-n-le1.false c.args.odd c.is_yes.ensures c.if-is_yes.false c.eval_edge-else-is_yes.ensures
