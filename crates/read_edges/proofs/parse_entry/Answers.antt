-- `parse_entry` meets its contract: the first byte says whether there is a minus.
use mathlib.Core.Path.{sym, ◌∙◌}
use borrow.Author.Tests.{eqb-true, eqb-false}
use Rattle.read_edges.proofs.Entries.{begins-plain, begins-alone, begins-minus}
use Rattle.read_edges.proofs.parse_entry.Goals as goal

pub returns-in_default : goal.returns-in_default
returns-in_default c =
    c.parse_magnitude.ensures ∙ sym (begins-plain _ c.in_default.ensures.cases)

pub returns-then-is_empty : goal.returns-then-is_empty
returns-then-is_empty c =
    let p = c.in-Some.ensures.cases in
    sym (begins-alone _ _ p.0 p.1 (eqb-true _ _ (sym c.if-is_empty.ensures)))

pub returns : goal.returns
returns c =
    let p = c.in-Some.ensures.cases in
    c.parse_magnitude-2.ensures ∙ sym (begins-minus _ _ p.0 p.1 (eqb-false _ _ (sym c.if-is_empty.ensures)))
