-- `is_utf8` meets its contract. The loop's invariant: what is left of the bytes, read on from the state, gives the answer for all of
-- them.
use mathlib.Core.Path.{sym, ap, ◌∙◌}
use Rattle.codes.proofs.Machine.{run-go, run-stop, run_end}
use Rattle.read_text.specs.Text.{utf8_end}
use Rattle.read_text.proofs.Texts.{utf8-starts}
use Rattle.read_text.proofs.is_utf8.Goals as goal

pub loop-b-init : goal.loop-b-init
loop-b-init c =
    utf8-starts _

pub loop-b-preserved : goal.loop-b-preserved
loop-b-preserved c =
    c.loop-b.invariant ∙ run-go _ _ _ _ c.loop-b-test.true (sym c.in-Some.ensures)

pub returns-in_default : goal.returns-in_default
returns-in_default c =
    sym (c.loop-b.invariant ∙ run-stop _ _ _ _ c.loop-b-test.true (sym c.in_default.ensures))

pub returns-in-Whole : goal.returns-in-Whole
returns-in-Whole c =
    sym (c.loop-b.invariant ∙ run_end _ _ _ _ c.loop-b-test.false ∙ ap utf8_end c.in-Whole.is)

pub returns-in_default-matches : goal.returns-in_default-matches
returns-in_default-matches c =
    sym (c.loop-b.invariant ∙ run_end _ _ _ _ c.loop-b-test.false ∙ ap utf8_end c.in_default-matches.is)
