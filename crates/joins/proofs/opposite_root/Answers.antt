-- `opposite_root` meets its contract: a root of a store that keeps its rules is an edge, which has an opposite.
use mathlib.Core.Path.{sym, ◌∙◌}
use mir.ValLaws.{to_z-of_z}
use Rattle.edges.specs.Width.{edge_width}
use Rattle.store.specs.Held.{held}
use Rattle.joins.proofs.Calling.{root-width}
use Rattle.joins.proofs.opposite_root.Goals as goal

pub negate-requires : goal.negate-requires
negate-requires c =
    rw (to_z-of_z edge_width c.args.root c.ranges.root)
    (root-width (held c.args.store.now) c.args.root (sym c.keeps_rules.ensures.kept ∙ c.if-not-keeps_rules.false)
    (rw (to_z-of_z edge_width c.args.root c.ranges.root) at (sym c.is_root.ensures ∙ c.if-not-is_root.false)))
