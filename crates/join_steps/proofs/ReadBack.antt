-- Edges as they are read back from their bits.
use mathlib.Core.Path.{◌≡◌}
use mathlib.Core.Bool.{Bool, true, false, cond}
use lib.IntN.{ℤ, neg_ℤ}
use mir.Val.{to_z, of_z}
use Rattle.edges.specs.Edge.{IsEdge, minus}
use Rattle.edges.specs.Width.{edge_width}
use Rattle.edges.proofs.Edge.{edge-neg}
use Rattle.edges.proofs.Signed.{edge-back}
use Rattle.joined.specs.Join.{through}

-- an edge as it is read back
abbrev pub read_back : ℤ → ℤ
read_back e = to_z edge_width (of_z edge_width e)

pub read_back-is : (e : ℤ) → IsEdge e → read_back e ≡ e
read_back-is e h = edge-back edge_width e h

-- one of two edges
pub one_of : (x : Bool) (a b : ℤ) → IsEdge a → IsEdge b → IsEdge (cond x a b)
one_of true a b A B = A
one_of false a b A B = B

-- an edge of a node, seen through an edge to that node
pub through-kept : (a x : ℤ) → IsEdge x → IsEdge (through a x)
through-kept a x X = one_of (minus a) (neg_ℤ x) x (edge-neg x X) X
