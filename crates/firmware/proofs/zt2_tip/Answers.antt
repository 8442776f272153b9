-- `zt2_tip` meets its contract: it hands everything on, and gives the answer in C's form.
use mir.Facts.{to_z-of_z}
use Rattle.firmware.proofs.zt2_tip.Goals as goal

pub shape_of-work : goal.shape_of-work
shape_of-work c =
    c.tip.auto.work

pub returns : goal.returns
returns c =
    record { answer = rw (c.from.ensures, c.tip.ensures.answer, to_z-of_z c.ranges.root); work_left = c.tip.ensures.work_left }
