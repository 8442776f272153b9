-- `edge_to` meets its contract: the number of a node fits an edge.
use lib.IntN.{pos}
use Rattle.edges.specs.Width.{edge_width}
use Rattle.edges.proofs.Signed.{edge-back}
use Rattle.slots.proofs.edge_to.Goals as goal

pub returns : goal.returns
returns c =
    edge-back edge_width (pos c.args.n) c.requires
