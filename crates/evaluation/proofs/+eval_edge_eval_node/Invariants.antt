-- The measure is twice the node's number, one more for the edge: an edge's node has a lower measure, and a node's children are edges to lower nodes.
use Prim.Native.Nat.{◌+◌, ◌*◌}
use lib.IntN.{nat_abs}
use Rattle.evaluation.proofs.+eval_edge_eval_node.Given as goal

abbrev pub decreases-eval_edge : goal.decreases-eval_edge
decreases-eval_edge l = 2 * nat_abs l.e + 1

abbrev pub decreases-eval_node : goal.decreases-eval_node
decreases-eval_node l = 2 * l.n
