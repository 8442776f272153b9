-- The number of a line as an edge: a node's number, by a table, with a sign.
use mathlib.Core.Path.{◌≡◌, refl}
use mathlib.Core.Bool.{Bool, true, false}
use mathlib.Core.List.{List}
use Prim.Native.Nat.{ℕ, ◌-◌}
use lib.ListN.{get_or}
use lib.IntN.{ℤ, pos, nat_abs}
use Rattle.edges.specs.Width.{edge_width}
use mir.Val.{SFits, to_z, of_z}
use mir.Facts.{to_z-of_z}
use Rattle.edges.specs.Edge.{minus}
use Rattle.edges.proofs.Edge.{abs_neg}
use Rattle.read_edges.specs.Edges.{signed}
use Rattle.export_nodes.specs.Tables.{line_number_of}

-- its magnitude is the number
pub signed-abs : (b : Bool) (n : ℕ) → nat_abs (signed b n) ≡ n
signed-abs true n = abs_neg (pos n)
signed-abs false n = refl

pub number-abs : (numbers : List ℕ) (e : ℤ) → nat_abs (line_number_of numbers e) ≡ get_or numbers (nat_abs e - 1) 0
unfolding line_number_of
number-abs numbers e = signed-abs (minus e) (get_or numbers (nat_abs e - 1) 0)

-- an edge of a lent list is read as it is
pub read-back : (e : ℤ) → SFits edge_width e → to_z edge_width (of_z edge_width e) ≡ e
read-back e f = to_z-of_z f
