-- `seat_levels` meets its contract.
use mathlib.Core.Path.{refl}
use native.Mathlib.Omega.{arith}
use Rattle.export_support.proofs.LevelSeats.{counting-start, counting-one, counting-none, counting-most, counting-end}
use Rattle.export_support.proofs.seat_levels.Goals.{then-seats-l-ne0, else-seats-l-ne0}
use Rattle.export_support.proofs.seat_levels.Goals as goal

pub loop-l-init : goal.loop-l-init
loop-l-init c = counting-start _ _ _ _ _ refl c.mark_levels.ensures

pub overflow_add-seat : goal.overflow_add-seat
overflow_add-seat c = omega (arith, counting-most _ _ _ _ _ _ _ c.loop-l.invariant, c.ranges.levels)

pub loop-l-preserved : goal.loop-l-preserved
loop-l-preserved c =
    let m = c.loop-l.invariant in
    elim c.if-seats-l-ne0.branch [
      | then-seats-l-ne0 w ↦ rw (w.seats-is, w.seat-is) (counting-one _ _ _ _ _ _ _ m c.loop-l-test.true (omega arith) w.if-seats-l-ne0.true)
      | else-seats-l-ne0 w ↦ rw (w.seats-is, w.seat-is) (counting-none _ _ _ _ _ _ _ m c.loop-l-test.true (omega arith) w.if-seats-l-ne0.false)
    ]

pub returns : goal.returns
returns c =
    let e = counting-end _ _ _ _ _ _ _ c.loop-l.invariant c.loop-l-test.false in
    record { value = e.0; seats = e.1 }
