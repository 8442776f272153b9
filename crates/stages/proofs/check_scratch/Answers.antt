-- `check_scratch` meets its contract.
use Rattle.std.proofs.lemmas.Result.{err_from_is_err_and}
use Rattle.stages.proofs.StageLaws.{few-edges, few-seats, enough-scratch, scratch-handed}
use Rattle.stages.proofs.check_scratch.Goals as goal

pub returns-in_err-h : goal.returns-in_err-h
returns-in_err-h c =
    let p = err_from_is_err_and c.from_residual.result c.from_residual.ensures.1 in
    rw (p.1, p.2) (scratch-handed _ _ _ _ c.in_err-h.was)

pub returns-then-edges-h : goal.returns-then-edges-h
returns-then-edges-h c =
    rw c.at.ensures (few-edges _ _ _ _ c.in_ok-h.was c.if-edges-h.true)

pub returns-then-seats-h : goal.returns-then-seats-h
returns-then-seats-h c =
    rw c.at-then-seats-h.ensures (few-seats _ _ _ _ c.in_ok-h.was c.if-edges-h.false c.if-seats-h.true)

pub returns : goal.returns
returns c =
    enough-scratch _ _ _ _ c.in_ok-h.was c.if-edges-h.false c.if-seats-h.false
