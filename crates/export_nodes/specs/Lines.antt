-- The node lines of an export, as data: the type is the importers'. Document 01, 'Export'.
use Rattle.std.specs.Prelude.{ℕ, ◌-◌, cond, List, map, eqb, ℤ, nat_abs}
use Rattle.edges.specs.Edge.{minus}
use Rattle.read_edges.specs.Edges.{signed}
use Rattle.store.specs.Store.{Store, level_at, then_at, else_at}
use Rattle.seats.specs.Seats.{seat_of}
use Rattle.node_lines.specs.Line.{Line, terminal, inner}
use Rattle.numbering.specs.Support.{support_of}

-- an edge to a node, as an edge to that node's line: lines are numbered from 1 in the order of the nodes ns
unfoldable pub renumbered : List ℕ → ℤ → ℤ
renumbered ns e = signed (minus e) (seat_of (nat_abs e) ns)

-- the line of a node: its support position is that of its level among the levels of the support
unfoldable pub line_of_node : Store → List ℕ → List ℕ → ℕ → Line
line_of_node σ support ns n =
    cond (eqb n 1) terminal (inner (seat_of (level_at σ n) support - 1) (renumbered ns (then_at σ n)) (renumbered ns (else_at σ n)))

-- the lines of the nodes ns, in their order
unfoldable pub lines_for : Store → List ℕ → List Line
lines_for σ ns = map (line_of_node σ (support_of σ ns) ns) ns
