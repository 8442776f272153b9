-- `zt2_not` meets its contract: it hands everything on, and gives the answer in C's form.
use mir.Facts.{to_z-of_z}
use Rattle.firmware.proofs.zt2_not.Goals as goal

pub shape_of-work : goal.shape_of-work
shape_of-work c =
    c.opposite.auto.work

pub returns : goal.returns
returns c =
    record { answer = rw (c.from.ensures, c.opposite.ensures.answer, to_z-of_z c.ranges.root); work_left = c.opposite.ensures.work_left }
