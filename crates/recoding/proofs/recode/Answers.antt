-- `recode` meets its contract: the input's length, the header, the load and the export, one after the other.
use mathlib.Core.Path.{refl, sym, ap, ◌∙◌}
use lib.ListN.{length, replicate}
use lib.Seq.{length-take-le}
use Rattle.std.proofs.lemmas.Result.{err_from_is_err_and}
use Rattle.codes.specs.Limits.{limits}
use Rattle.recoding.specs.Recode.{recode_of}
use Rattle.recoding.proofs.Whole.{recodes-long, list-reaches, recodes, recodes-none}
use Rattle.recoding.proofs.recode.Goals as goal

pub shape_of-out-then-f-gt-INPUT_MOST : goal.shape_of-out-then-f-gt-INPUT_MOST
shape_of-out-then-f-gt-INPUT_MOST c =
    c.fill.ensures.len

pub returns-then-f-gt-INPUT_MOST-clause-result_value : goal.returns-then-f-gt-INPUT_MOST-clause-result_value
returns-then-f-gt-INPUT_MOST-clause-result_value c =
    rw c.at.ensures (ap (λ l. l.answer) (recodes-long c.args.f.now c.if-f-gt-INPUT_MOST.true (length c.args.out.now)))

pub returns-then-f-gt-INPUT_MOST-clause-out_after : goal.returns-then-f-gt-INPUT_MOST-clause-out_after
returns-then-f-gt-INPUT_MOST-clause-out_after c =
    c.fill.ensures.after (λ y h. h) ∙ ap (λ l. l.out) (recodes-long c.args.f.now c.if-f-gt-INPUT_MOST.true (length c.args.out.now))

pub shape_of-out-in_err-levels : goal.shape_of-out-in_err-levels
shape_of-out-in_err-levels c =
    c.fill.ensures.len

pub returns-in_err-levels-clause-result_value : goal.returns-in_err-levels-clause-result_value
returns-in_err-levels-clause-result_value c =
    let p = err_from_is_err_and c.from_residual.result c.from_residual.ensures.1 in
    rw (p.1, p.2)
    (ap (λ l. l.answer) (recodes-none c.args.f.now _ c.in_err-levels.ensures.value c.if-f-gt-INPUT_MOST.false (length c.args.out.now)))

pub returns-in_err-levels-clause-out_after : goal.returns-in_err-levels-clause-out_after
returns-in_err-levels-clause-out_after c =
    c.fill.ensures.after (λ y h. h)
    ∙ ap (λ l. l.out) (recodes-none c.args.f.now _ c.in_err-levels.ensures.value c.if-f-gt-INPUT_MOST.false (length c.args.out.now))

pub slice_bounds-list-end : goal.slice_bounds-list-end
slice_bounds-list-end c =
    let e = c.in_ok-levels.ensures in list-reaches c.args.f.now _ _ e.value _ _ e.list_after refl

pub slice_bounds-reload-end : goal.slice_bounds-reload-end
slice_bounds-reload-end c =
    let e = c.in_ok-levels.ensures in sym (length-take-le _ _ (list-reaches c.args.f.now _ _ e.value _ _ e.list_after refl))

pub reload-requires : goal.reload-requires
reload-requires c =
    c.fill.ensures.after (λ y h. h) ∙ ap (λ n. replicate n 0) (sym c.fill.ensures.len)

pub shape_of-out : goal.shape_of-out
shape_of-out c =
    c.reload.auto.out ∙ c.fill.ensures.len

pub returns-clause-result_value : goal.returns-clause-result_value
returns-clause-result_value c =
    let e = c.in_ok-levels.ensures in
    c.reload.ensures.answer
    ∙ ap (λ l. l.answer) (recodes c.args.f.now _ _ e.value _ _ e.list_after refl c.if-f-gt-INPUT_MOST.false _)
    ∙ ap (λ n. (recode_of limits c.args.f.now n).answer) c.fill.ensures.len

pub returns-clause-out_after : goal.returns-clause-out_after
returns-clause-out_after c =
    let e = c.in_ok-levels.ensures in
    c.reload.ensures.out_left
    ∙ ap (λ l. l.out) (recodes c.args.f.now _ _ e.value _ _ e.list_after refl c.if-f-gt-INPUT_MOST.false _)
    ∙ ap (λ n. (recode_of limits c.args.f.now n).out) c.fill.ensures.len
