-- `names_fit` meets its contract. The outer invariant: the first i names are fit, and the rest decides. The inner one: the first k bytes of
-- the name are read, and the state and the other bytes decide.
use mathlib.Core.Path.{refl, sym, ap, ◌∙◌}
use native.Mathlib.Omega.{arith}
use Rattle.read_text.specs.Kinds.{of_utf8_next}
use Rattle.read_text.specs.Text.{utf8_end}
use Rattle.export_names.proofs.NameReading.{reading-start, reading-more, reading-stops, reading-end}
use Rattle.export_names.proofs.NameLists.{checked-start, checked-more, checked-unfit, checked-outside, checked-end}
use Rattle.export_names.proofs.names_fit.Goals as goal

pub names-init : goal.names-init
names-init c =
    (checked-start c.requires, refl)

pub bounds-starts-i : goal.bounds-starts-i
bounds-starts-i c =
    omega (arith, c.names.invariant.0.even)

pub loop-k-init : goal.loop-k-init
loop-k-init c =
    (reading-start _ _ _ _ (sym c.if-not-place_fits.false ∙ c.place_fits.ensures), refl)

pub overflow_add-start : goal.overflow_add-start
overflow_add-start c =
    omega (arith, c.loop-k.invariant.0.inside)

pub bounds-bytes-start : goal.bounds-bytes-start
bounds-bytes-start c =
    omega (arith, c.loop-k.invariant.0.inside)

pub loop-k-preserved : goal.loop-k-preserved
loop-k-preserved c =
    let r =
    reading-more
    c.loop-k.invariant.0
    c.loop-k-test.true
    (sym c.name_next.ensures ∙ ap of_utf8_next c.in-Some.is) in
    (r, c.loop-k.invariant.1)

pub names-preserved : goal.names-preserved
names-preserved c =
    let k =
    checked-more
    c.names.invariant.0
    (omega arith)
    (reading-end c.loop-k.invariant.0 c.loop-k-test.false ∙ ap utf8_end c.in_default-state.is) in
    (k, c.loop-k.invariant.1 ∙ c.names.invariant.1)

pub returns-after-names : goal.returns-after-names
returns-after-names c =
    c.names.invariant.1 ∙ checked-end c.names.invariant.0 (omega arith)

pub returns-then-not-place_fits : goal.returns-then-not-place_fits
returns-then-not-place_fits c =
    checked-outside
    c.names.invariant.0
    (omega arith)
    (sym c.if-not-place_fits.true ∙ c.place_fits.ensures)

pub returns-in_default : goal.returns-in_default
returns-in_default c =
    let e = sym c.name_next.ensures ∙ ap of_utf8_next c.in_default.is in
    checked-unfit
    c.names.invariant.0
    (omega arith)
    (reading-stops c.loop-k.invariant.0 c.loop-k-test.true e)

pub returns-in-Tail : goal.returns-in-Tail
returns-in-Tail c =
    checked-unfit
    c.names.invariant.0
    (omega arith)
    (reading-end c.loop-k.invariant.0 c.loop-k-test.false ∙ ap utf8_end c.in-Tail.is)
