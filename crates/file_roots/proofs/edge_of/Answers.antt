-- `edge_of` meets its contract: a root within the limit of nodes has the same value as an edge.
use mathlib.Core.Path.{sym}
use native.Mathlib.Omega.{arith}
use mir.Syntax.{w64}
use Rattle.edges.specs.Width.{edge_width}
use Rattle.file_roots.proofs.RootEdges.{cast-none, cast_fits, cast_is}
use Rattle.file_roots.proofs.edge_of.Goals as goal

pub returns-then-unsigned_abs : goal.returns-then-unsigned_abs
returns-then-unsigned_abs c =
    sym (cast-none w64 edge_width c.args.r c.ranges.r c.unsigned_abs.ensures.value c.if-unsigned_abs.true)

pub overflow_cast-result : goal.overflow_cast-result
overflow_cast-result c =
    cast_fits w64 edge_width c.args.r c.ranges.r c.unsigned_abs.ensures.value c.if-unsigned_abs.false (omega arith)

pub returns : goal.returns
returns c =
    cast_is w64 edge_width c.args.r c.ranges.r c.unsigned_abs.ensures.value c.if-unsigned_abs.false (omega arith)
