-- `edge_for` meets its contract: the edge of the line is read from the list, 1 beyond it, and turned over under a minus.
use mathlib.Core.Path.{ap, ◌∙◌}
use native.Mathlib.Omega.{arith}
use lib.IntN.{ℤ, pos}
use Rattle.std.specs.Option.{unwrap_or}
use Rattle.std.proofs.Common.{Option}
use Rattle.imported.proofs.ChildEdge.{edge-minus, edge_plain}
use Rattle.import_steps.proofs.edge_for.Goals as goal

pub returns-then-is_minus : goal.returns-then-is_minus
returns-then-is_minus c =
    edge-minus c.args.edges.now c.args.c c.ranges.c c.requires.0 c.magnitude.ensures
    (c.unwrap_or-e.ensures ∙ ap (λ (o : Option ℤ). unwrap_or o (pos 1)) c.copied.ensures ∙ c.get.ensures.lookup.4 (omega arith) (pos 1))
    c.is_minus.ensures c.if-is_minus.true c.negate.ensures

pub returns-else-is_minus : goal.returns-else-is_minus
returns-else-is_minus c =
    edge_plain c.args.edges.now c.args.c c.ranges.c c.requires.0 c.magnitude.ensures
    (c.unwrap_or-e.ensures ∙ ap (λ (o : Option ℤ). unwrap_or o (pos 1)) c.copied.ensures ∙ c.get.ensures.lookup.4 (omega arith) (pos 1))
    c.is_minus.ensures c.if-is_minus.false
