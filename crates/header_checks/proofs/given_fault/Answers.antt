-- `given_fault` meets its contract: a list that is given is counted.
use mathlib.Core.Path.{sym, ◌∙◌}
use Rattle.header_checks.proofs.Refusals.{given-missing, given-counts}
use Rattle.header_checks.proofs.given_fault.Goals as goal

pub returns-then-n-eq0 : goal.returns-then-n-eq0
returns-then-n-eq0 c =
    sym (given-missing _ _ c.if-n-eq0.true)

pub returns : goal.returns
returns c =
    c.count_fault.ensures ∙ sym (given-counts _ _ c.if-n-eq0.false)
