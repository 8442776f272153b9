-- `zt2_export` meets its contract: the export is that of the settings that the bytes stand for.
use mathlib.Core.Path.{ap, ◌∙◌}
use lib.ListN.{length}
use Rattle.store.specs.Held.{held}
use Rattle.store.specs.Store.{store}
use Rattle.c_answers.specs.Answers.{of_length}
use Rattle.c_answers.specs.Settings.{settings_of}
use Rattle.firmware.proofs.Exported.{exported-as}
use Rattle.firmware.proofs.zt2_export.Goals as goal

-- no list that is lent changes its length
pub shape_of-slots : goal.shape_of-slots
shape_of-slots c =
    c.export.auto.slots

pub shape_of-numbers : goal.shape_of-numbers
shape_of-numbers c =
    c.export.auto.numbers

pub shape_of-out : goal.shape_of-out
shape_of-out c =
    c.export.auto.out

pub shape_of-work : goal.shape_of-work
shape_of-work c =
    c.export.auto.work

pub returns : goal.returns
returns c =
    let a = c.args in
    let e = exported-as a.roots.now a.order.now a.bytes.now a.starts.now a.lens.now a.rootstarts.now a.rootlens.now
    (length a.slots.now) (length a.numbers.now) (length a.out.now)
    (store a.levels a.count a.level.now a.then.now a.els.now a.next.now a.heads.now)
    (settings_of a.version a.text a.ddstart a.ddlen) c.settings_of-settings.ensures in
    record {
      answer = c.from.ensures ∙ ap of_length (c.export.ensures.answer ∙ ap (λ l. l.answer) e);
      out_left = c.export.ensures.out_left ∙ ap (λ l. l.out) e;
      slots_left = c.export.ensures.slots_left;
      numbers_left = c.export.ensures.numbers_left;
      work_left = c.export.ensures.work_left;
    }
