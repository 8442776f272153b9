-- `check_list` meets its contract.
use mathlib.Core.Path.{ap}
use mathlib.Core.Bool.{not}
use Rattle.std.proofs.lemmas.Result.{err_from_is_err_and}
use Rattle.stages.proofs.StageLaws.{list_refused, list-passed, list-handed}
use Rattle.stages.proofs.check_list.Goals as goal

pub returns-in_err-h : goal.returns-in_err-h
returns-in_err-h c =
    let p = err_from_is_err_and c.from_residual.result c.from_residual.ensures.1 in
    rw (p.1, p.2) (list-handed _ _ _ _ c.in_err-h.was)

pub returns-then-not-list_fits : goal.returns-then-not-list_fits
returns-then-not-list_fits c =
    rw c.at.ensures (list_refused _ _ _ _ c.in_ok-h.was c.list_fits.ensures (ap not c.if-not-list_fits.true))

pub returns : goal.returns
returns c =
    list-passed _ _ _ _ c.in_ok-h.was c.list_fits.ensures (ap not c.if-not-list_fits.false)
