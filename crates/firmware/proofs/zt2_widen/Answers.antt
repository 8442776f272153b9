-- `zt2_widen` meets its contract: it hands everything on, and gives the answer in C's form.
use mathlib.Core.Path.{sym, ap, ◌∙◌}
use Rattle.c_answers.specs.Answers.{of_turn}
use Rattle.firmware.proofs.Handed.{handed-back, turned-levels}
use Rattle.firmware.proofs.zt2_widen.Goals as goal

pub shape_of-work : goal.shape_of-work
shape_of-work c =
    c.widen-answer.auto.work

pub returns : goal.returns
returns c =
    let e = c.widen-answer.ensures.turned in
    let same = c.widen-answer.ensures.same in
    record {
      answer = c.from.ensures ∙ ap of_turn e.answer;
      store = handed-back c.widen-answer.new.new c.args.levels _ _ _ _ _ (turned-levels _ _ _ e.store)
          (c.level-1.given.1.1 (sym same.level)) (c.then-1.given.1.1 (sym same.then))
          (c.els-1.given.1.1 (sym same.els)) (c.next-1.given.1.1 (sym same.next)) (c.heads-1.given.1.1 (sym same.heads))
          ∙ e.store;
      work_left = e.work_left;
    }
