-- `put_edge` meets its contract: a minus, where the edge has one, and then its magnitude.
use mathlib.Core.Path.{◌≡◌, sym, ap, ◌∙◌}
use mathlib.Core.List.{◌∷◌}
use native.Mathlib.Omega.{arith}
use lib.ListN.{length, length-set}
use lib.IntN.{nat_abs}
use mir.Facts.{to_z-of_z}
use Rattle.edges.specs.Edge.{minus}
use Rattle.writers.specs.Decimal.{decimal, edge_text}
use Rattle.writers.proofs.Sets.{wrote-cons}
use Rattle.writers.proofs.Decimal.{edge-plain, edge-minus}
use Rattle.writers.proofs.text.put_edge.Goals.{Then-is_minus, Else-is_minus}
use Rattle.writers.proofs.text.put_edge.Goals as goal

-- The text of the edge in each branch: its magnitude and its sign are those that the calls answer.
signed : (c : Then-is_minus) → edge_text c.args.e ≡ 0x2d ∷ decimal c.magnitude-n.result
signed c =
    edge-minus c.args.e (c.magnitude-n.ensures ∙ ap nat_abs (to_z-of_z c.ranges.e))
    (sym (c.is_minus.ensures ∙ ap minus (to_z-of_z c.ranges.e)) ∙ c.if-is_minus.true)

plain : (c : Else-is_minus) → edge_text c.args.e ≡ decimal c.magnitude-n.result
plain c =
    edge-plain c.args.e (c.magnitude-n.ensures ∙ ap nat_abs (to_z-of_z c.ranges.e))
    (sym (c.is_minus.ensures ∙ ap minus (to_z-of_z c.ranges.e)) ∙ c.if-is_minus.false)

pub bounds-out-at : goal.bounds-out-at
bounds-out-at c = omega (arith, ap length (signed c))

pub put_decimal-requires : goal.put_decimal-requires
put_decimal-requires c = simp length-set (omega (arith, ap length (signed (goal.at.put_decimal-requires c).Then-is_minus)))

pub returns-then-is_minus : goal.returns-then-is_minus
returns-then-is_minus c =
    let s = (goal.at.returns-then-is_minus c).Then-is_minus in
    rw (signed s) (wrote-cons s.args.out.now s.args.at 0x2d (decimal s.magnitude-n.result) c.put_decimal.ensures)

pub put_decimal-requires-2 : goal.put_decimal-requires-2
put_decimal-requires-2 c = omega (arith, ap length (plain (goal.at.put_decimal-requires-2 c).Else-is_minus))

pub returns : goal.returns
returns c = rw (plain (goal.at.returns c).Else-is_minus) c.put_decimal-2.ensures
