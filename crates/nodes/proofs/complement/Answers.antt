-- `complement` meets its contract: an edge has an opposite, and both are read back as they are.
use Rattle.edges.specs.Width.{edge_width}
use mir.ValLaws.{to_z-of_z}
use Rattle.nodes.proofs.Opposite.{opposite, itself}
use Rattle.nodes.proofs.complement.Goals as goal

pub negate-requires : goal.negate-requires
negate-requires c =
    rw (to_z-of_z edge_width c.args.e c.ranges.e) c.requires

pub returns-then-minus : goal.returns-then-minus
returns-then-minus c =
    let s = c in opposite s.args.minus s.args.e s.requires _ c.if-minus.true c.negate.ensures

pub returns-else-minus : goal.returns-else-minus
returns-else-minus c =
    let s = c in itself s.args.minus s.args.e s.requires c.if-minus.false
