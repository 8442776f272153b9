-- `count_fault` meets its contract.
use mathlib.Core.Path.{sym}
use Rattle.header_checks.proofs.Refusals.{count-right, count-wrong}
use Rattle.header_checks.proofs.count_fault.Goals as goal

pub returns-then-n-want : goal.returns-then-n-want
returns-then-n-want c =
    sym (count-right _ _ c.if-n-want.true)

pub returns : goal.returns
returns c =
    sym (count-wrong _ _ c.if-n-want.false)
