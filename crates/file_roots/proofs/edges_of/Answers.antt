-- `edges_of` meets its contract. The invariant: the roots before i lie in the lent list, as edges.
use native.Mathlib.Omega.{arith}
use Rattle.std.proofs.Common.{rules}
use mir.Syntax.{w64}
use Rattle.edges.specs.Width.{edge_width}
use Rattle.file_roots.proofs.RootEdges.{edged-start, edged-more, edged-past, edged-end, edge-read}
use Rattle.file_roots.proofs.edges_of.Goals as goal
use Rattle.file_roots.proofs.edges_of.Goals.{then-i-dst, else-i-dst}

pub loop-i-init : goal.loop-i-init
loop-i-init c =
    edged-start _ _

pub loop-i-preserved : goal.loop-i-preserved
loop-i-preserved c =
    elim c.if-i-dst.branch [
      | then-i-dst w ↦ rw w.dst-is
          (edged-more _ _ _ _ c.loop-i.invariant c.loop-i-test.true (edge-read w64 edge_width _ (search rules) (omega arith) w.edge_of.ensures))
      | else-i-dst w ↦ rw w.dst-is (edged-past _ _ _ _ c.loop-i.invariant c.loop-i-test.true w.if-i-dst.false)
    ]

pub returns : goal.returns
returns c =
    edged-end _ _ _ _ c.loop-i.invariant c.loop-i-test.false
