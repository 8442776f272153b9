-- `reload` meets its contract: the call load fills the parts, and what they hold is exported.
use mathlib.Core.Path.{sym, ap, ◌∙◌}
use lib.ListN.{length}
use Rattle.std.proofs.lemmas.Result.{err_from_is_err_and}
use Rattle.store.specs.Held.{held}
use Rattle.calls.specs.Load.{parts}
use Rattle.recoding.proofs.Reloaded.{vars-front, support-front, roots-front, still-judged, reloads, reloads-none}
use Rattle.recoding.proofs.reload.Goals as goal

pub returns-in_err-h : goal.returns-in_err-h
returns-in_err-h c =
    let a = c.args in
    let p = err_from_is_err_and c.from_residual.result c.from_residual.ensures.1 in
    let w = reloads-none a.f.now a.list.now a.levels _ c.in_err-h.ensures.loaded.answer (length a.out.now) in
    rw (p.1, p.2) (record { answer = ap (λ l. l.answer) w; out_left = c.requires ∙ ap (λ l. l.out) w })

pub slice_bounds-roots-end : goal.slice_bounds-roots-end
slice_bounds-roots-end c =
    let a = c.args in (roots-front a.f.now a.list.now a.levels _ c.in_ok-h.ensures.loaded.answer c.load.new.roots c.load.auto.roots).0

pub slice_bounds-write_back-end : goal.slice_bounds-write_back-end
slice_bounds-write_back-end c =
    let a = c.args in (roots-front a.f.now a.list.now a.levels _ c.in_ok-h.ensures.loaded.answer c.load.new.roots c.load.auto.roots).1

pub slice_bounds-ids-end : goal.slice_bounds-ids-end
slice_bounds-ids-end c =
    let a = c.args in (support-front a.f.now a.list.now a.levels _ c.in_ok-h.ensures.loaded.answer c.load.new.ids c.load.auto.ids).0

pub slice_bounds-write_back-end-2 : goal.slice_bounds-write_back-end-2
slice_bounds-write_back-end-2 c =
    let a = c.args in (support-front a.f.now a.list.now a.levels _ c.in_ok-h.ensures.loaded.answer c.load.new.ids c.load.auto.ids).1

pub slice_bounds-permids-end : goal.slice_bounds-permids-end
slice_bounds-permids-end c =
    let a = c.args in (support-front a.f.now a.list.now a.levels _ c.in_ok-h.ensures.loaded.answer c.load.new.permids c.load.auto.permids).0

pub slice_bounds-write_back-end-3 : goal.slice_bounds-write_back-end-3
slice_bounds-write_back-end-3 c =
    let a = c.args in (support-front a.f.now a.list.now a.levels _ c.in_ok-h.ensures.loaded.answer c.load.new.permids c.load.auto.permids).1

pub slice_bounds-names-end : goal.slice_bounds-names-end
slice_bounds-names-end c =
    let a = c.args in (vars-front a.f.now a.list.now a.levels _ c.in_ok-h.ensures.loaded.answer c.load.new.names c.load.auto.names).0

pub slice_bounds-write_back-end-4 : goal.slice_bounds-write_back-end-4
slice_bounds-write_back-end-4 c =
    let a = c.args in (vars-front a.f.now a.list.now a.levels _ c.in_ok-h.ensures.loaded.answer c.load.new.names c.load.auto.names).1

pub slice_bounds-lens-end : goal.slice_bounds-lens-end
slice_bounds-lens-end c =
    let a = c.args in (vars-front a.f.now a.list.now a.levels _ c.in_ok-h.ensures.loaded.answer c.load.new.lens c.load.auto.lens).0

pub slice_bounds-write_back-end-5 : goal.slice_bounds-write_back-end-5
slice_bounds-write_back-end-5 c =
    let a = c.args in (vars-front a.f.now a.list.now a.levels _ c.in_ok-h.ensures.loaded.answer c.load.new.lens c.load.auto.lens).1

pub slice_bounds-rootnames-end : goal.slice_bounds-rootnames-end
slice_bounds-rootnames-end c =
    let a = c.args in (roots-front a.f.now a.list.now a.levels _ c.in_ok-h.ensures.loaded.answer c.load.new.rootnames c.load.auto.rootnames).0

pub slice_bounds-write_back-end-6 : goal.slice_bounds-write_back-end-6
slice_bounds-write_back-end-6 c =
    let a = c.args in (roots-front a.f.now a.list.now a.levels _ c.in_ok-h.ensures.loaded.answer c.load.new.rootnames c.load.auto.rootnames).1

pub slice_bounds-rootlens-end : goal.slice_bounds-rootlens-end
slice_bounds-rootlens-end c =
    let a = c.args in (roots-front a.f.now a.list.now a.levels _ c.in_ok-h.ensures.loaded.answer c.load.new.rootlens c.load.auto.rootlens).0

pub slice_bounds-write_back-end-7 : goal.slice_bounds-write_back-end-7
slice_bounds-write_back-end-7 c =
    let a = c.args in (roots-front a.f.now a.list.now a.levels _ c.in_ok-h.ensures.loaded.answer c.load.new.rootlens c.load.auto.rootlens).1

pub write_back-requires-clause-judged_levels : goal.write_back-requires-clause-judged_levels
write_back-requires-clause-judged_levels c =
    let a = c.args in
    let n = c.load.new in
    let e = c.in_ok-h.ensures.loaded in
    still-judged a.f.now a.list.now a.levels _ e.answer
    (parts n.ids n.order n.permids n.auxids n.names n.lens n.roots n.rootnames n.rootlens n.edges n.seats) e.lists

pub write_back-requires-clause-names_len : goal.write_back-requires-clause-names_len
write_back-requires-clause-names_len c =
    let a = c.args in
    let n = c.load.new in
    let l = c.load.auto in
    let vars = vars-front a.f.now a.list.now a.levels _ c.in_ok-h.ensures.loaded.answer in
    let roots = roots-front a.f.now a.list.now a.levels _ c.in_ok-h.ensures.loaded.answer in (
      sym (vars n.names l.names).1 ∙ (vars n.lens l.lens).1,
      sym (roots n.rootnames l.rootnames).1 ∙ (roots n.rootlens l.rootlens).1,
    )

pub shape_of-out : goal.shape_of-out
shape_of-out c =
    c.write_back.auto.out

pub returns : goal.returns
returns c =
    let a = c.args in
    let n = c.load.new in
    let e = c.in_ok-h.ensures.loaded in
    let w =
    reloads a.f.now a.list.now a.levels _ e.answer
    (parts n.ids n.order n.permids n.auxids n.names n.lens n.roots n.rootnames n.rootlens n.edges n.seats) e.lists
    (held c.as_ref-now.result) (c.as_ref-now.ensures ∙ e.store) (length a.out.now)
    in
    let b = c.write_back.ensures in
    record { answer = b.answer ∙ ap (λ l. l.answer) w; out_left = b.out_left ∙ ap (λ l. l.out) w }
