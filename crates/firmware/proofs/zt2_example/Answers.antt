-- `zt2_example` meets its contract: it hands everything on, the wanted answer by its byte, and gives the answer in C's form.
use mir.Facts.{to_z-of_z}
use Rattle.firmware.proofs.zt2_example.Goals as goal

pub shape_of-setting : goal.shape_of-setting
shape_of-setting c =
    c.example.auto.setting

pub shape_of-work : goal.shape_of-work
shape_of-work c =
    c.example.auto.work

pub returns : goal.returns
returns c =
    let e = c.example.ensures in
    record {
      answer = rw (c.from.ensures, e.answer, to_z-of_z c.ranges.root, c.wanted_of-wanted.ensures);
      setting_left = rw (e.setting_left, to_z-of_z c.ranges.root, c.wanted_of-wanted.ensures);
      work_left = e.work_left;
    }
