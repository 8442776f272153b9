-- `zt2_load` meets its contract: it hands everything on, and gives the answer in C's form.
use mathlib.Core.Path.{sym, ap, ◌∙◌}
use Rattle.c_answers.specs.Answers.{of_load_answer}
use Rattle.firmware.proofs.Handed.{handed-back, load-levels}
use Rattle.firmware.proofs.zt2_load.Goals as goal

-- no list that is lent changes its length
pub shape_of-ids : goal.shape_of-ids
shape_of-ids c =
    c.load-answer.auto.ids

pub shape_of-order : goal.shape_of-order
shape_of-order c =
    c.load-answer.auto.order

pub shape_of-permids : goal.shape_of-permids
shape_of-permids c =
    c.load-answer.auto.permids

pub shape_of-auxids : goal.shape_of-auxids
shape_of-auxids c =
    c.load-answer.auto.auxids

pub shape_of-names : goal.shape_of-names
shape_of-names c =
    c.load-answer.auto.names

pub shape_of-lens : goal.shape_of-lens
shape_of-lens c =
    c.load-answer.auto.lens

pub shape_of-roots : goal.shape_of-roots
shape_of-roots c =
    c.load-answer.auto.roots

pub shape_of-rootnames : goal.shape_of-rootnames
shape_of-rootnames c =
    c.load-answer.auto.rootnames

pub shape_of-rootlens : goal.shape_of-rootlens
shape_of-rootlens c =
    c.load-answer.auto.rootlens

pub shape_of-edges : goal.shape_of-edges
shape_of-edges c =
    c.load-answer.auto.edges

pub shape_of-seats : goal.shape_of-seats
shape_of-seats c =
    c.load-answer.auto.seats

pub shape_of-work : goal.shape_of-work
shape_of-work c =
    c.load-answer.auto.work

pub returns : goal.returns
returns c =
    let e = c.load-answer.ensures.loaded in
    let same = c.load-answer.ensures.same in
    record {
      answer = c.from.ensures ∙ ap of_load_answer e.answer;
      store = handed-back c.load-answer.new.store c.args.levels _ _ _ _ _ (load-levels _ _ _ e.store)
          (c.level-1.given.1.1 (sym same.level)) (c.then-1.given.1.1 (sym same.then))
          (c.els-1.given.1.1 (sym same.els)) (c.next-1.given.1.1 (sym same.next)) (c.heads-1.given.1.1 (sym same.heads))
          ∙ e.store;
      lists = e.lists;
      work_left = e.work_left;
    }
