-- `mark_levels` meets its contract.
use Rattle.export_support.proofs.LevelSeats.{marking-inner, marking-terminal, marking-end}
use Rattle.export_support.proofs.mark_levels.Goals.{then-d-levels, else-d-levels}
use Rattle.export_support.proofs.mark_levels.Goals as goal

pub loop-n-preserved : goal.loop-n-preserved
loop-n-preserved c =
    let m = c.loop-n.invariant in
    elim c.if-d-levels.branch [
      | then-d-levels w ↦ rw w.seats-is (marking-inner _ _ _ _ _ _ m c.loop-n-test.true _ c.depth_of-d.ensures w.if-d-levels.true)
      | else-d-levels w ↦ rw w.seats-is (marking-terminal _ _ _ _ _ _ m c.loop-n-test.true _ c.depth_of-d.ensures w.if-d-levels.false)
    ]

pub returns : goal.returns
returns c = marking-end _ _ _ _ _ _ c.loop-n.invariant c.loop-n-test.false
