-- `join` meets its contract: it hands everything on, and gives the answer in C's form.
use mathlib.Core.Path.{sym, ap, ◌∙◌}
use mir.Facts.{to_z-of_z}
use Rattle.c_answers.specs.Answers.{of_root}
use Rattle.firmware.proofs.Handed.{handed-back, join-levels}
use Rattle.firmware.proofs.join.Goals as goal

pub shape_of-cache : goal.shape_of-cache
shape_of-cache c =
    c.join-answer.auto.cache

pub shape_of-work : goal.shape_of-work
shape_of-work c =
    c.join-answer.auto.work

pub returns : goal.returns
returns c =
    let e = c.join-answer.ensures.joined in
    let same = c.join-answer.ensures.same in
    let answer = rw (to_z-of_z c.ranges.left, to_z-of_z c.ranges.right) at e.answer in
    let after = rw (to_z-of_z c.ranges.left, to_z-of_z c.ranges.right) at e.store in
    record {
      answer = c.from.ensures ∙ ap of_root answer;
      store = handed-back c.join-answer.new.store c.args.levels _ _ _ _ _ (join-levels _ _ _ _ _ after)
          (c.level-1.given.1.1 (sym same.level)) (c.then-1.given.1.1 (sym same.then))
          (c.els-1.given.1.1 (sym same.els)) (c.next-1.given.1.1 (sym same.next)) (c.heads-1.given.1.1 (sym same.heads))
          ∙ after;
      cache_left = e.cache_left;
      work_left = e.work_left;
    }
