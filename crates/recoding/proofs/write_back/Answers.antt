-- `write_back` meets its contract: settings, levels and names are prepared, and the call export does the rest.
use mathlib.Core.Path.{refl}
use Rattle.std.proofs.lemmas.Result.{err_from_is_err_and}
use Rattle.store.specs.Held.{held}
use Rattle.recoding.proofs.Passing.{passed-long, order-fits, order_long, handed, exports-answer, exports-out}
use Rattle.recoding.proofs.write_back.Goals as goal

pub variable_levels-requires : goal.variable_levels-requires
variable_levels-requires c =
    c.requires.judged_levels

pub slice_bounds-order-end : goal.slice_bounds-order-end
slice_bounds-order-end c =
    order-fits _ _ _ c.requires.judged_levels _ _ refl c.variable_levels.ensures

pub slice_bounds-export-end : goal.slice_bounds-export-end
slice_bounds-export-end c =
    order_long _ _ _ c.requires.judged_levels _ _ refl c.variable_levels.ensures

pub slice_bounds-export-end-2 : goal.slice_bounds-export-end-2
slice_bounds-export-end-2 c =
    passed-long c.args.lens.now c.args.names.now c.requires.names_len.0 _ c.passed_on-named.ensures

pub slice_bounds-export-end-3 : goal.slice_bounds-export-end-3
slice_bounds-export-end-3 c =
    passed-long c.args.lens.now c.args.lens.now refl _ c.passed_on-named.ensures

pub slice_bounds-export-end-4 : goal.slice_bounds-export-end-4
slice_bounds-export-end-4 c =
    passed-long c.args.rootlens.now c.args.rootnames.now c.requires.names_len.1 _ c.passed_on-rooted.ensures

pub slice_bounds-export-end-5 : goal.slice_bounds-export-end-5
slice_bounds-export-end-5 c =
    passed-long c.args.rootlens.now c.args.rootlens.now refl _ c.passed_on-rooted.ensures

pub returns-in_err-n : goal.returns-in_err-n
returns-in_err-n c =
    let a = c.args in
    let same =
    handed a.f.now a.h a.roots.now a.ids.now a.permids.now a.names.now a.lens.now a.rootnames.now a.rootlens.now c.requires.judged_levels
    c.requires.names_len c.default.result c.ascii.result c.diagram_name-settings.result c.default.ensures.result_value
    c.ascii.ensures.result_value c.diagram_name-settings.ensures.result_value _ _ refl c.variable_levels.ensures _ _ c.passed_on-named.ensures c.passed_on-rooted.ensures _ _ _ refl refl in
    let e = c.in_err-n.ensures in
    let p = err_from_is_err_and c.from_residual.result c.from_residual.ensures.1 in
    rw (p.1, p.2) (record { answer = exports-answer same (held a.store.now) e.answer; out_left = exports-out same (held a.store.now) e.out_left })

pub returns : goal.returns
returns c =
    let a = c.args in
    let same =
    handed a.f.now a.h a.roots.now a.ids.now a.permids.now a.names.now a.lens.now a.rootnames.now a.rootlens.now c.requires.judged_levels
    c.requires.names_len c.default.result c.ascii.result c.diagram_name-settings.result c.default.ensures.result_value
    c.ascii.ensures.result_value c.diagram_name-settings.ensures.result_value _ _ refl c.variable_levels.ensures _ _ c.passed_on-named.ensures c.passed_on-rooted.ensures _ _ _ refl refl in
    let e = c.in_ok-n.ensures in
    record { answer = exports-answer same (held a.store.now) e.answer; out_left = exports-out same (held a.store.now) e.out_left }
