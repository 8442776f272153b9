-- `listed_fault` meets its contract: how many ids, permids and auxids there are, then the ids, then the permids.
use mathlib.Core.Bool.{not}
use mathlib.Core.Path.{ap}
use Rattle.std.proofs.lemmas.Result.{err_from_is_err_and}
use Rattle.header_checks.proofs.Supporting.{ids-wrong, permids-wrong, auxids-wrong, counts-pass, ids-unfit, permids-unfit, support-passes}
use Rattle.header_checks.proofs.listed_fault.Goals as goal

pub returns-in_err-count_fault : goal.returns-in_err-count_fault
returns-in_err-count_fault c =
    let p = err_from_is_err_and c.from_residual.result c.from_residual.ensures.1 in
    rw (p.1, p.2) (ids-wrong _ _ c.number_in-want.ensures c.requires.ids_listed _ c.in_err-count_fault.ensures)

pub returns-in_err-count_fault-2 : goal.returns-in_err-count_fault-2
returns-in_err-count_fault-2 c =
    let p = err_from_is_err_and c.from_residual-in_err-count_fault-2.result c.from_residual-in_err-count_fault-2.ensures.1 in
    rw (p.1, p.2) (permids-wrong _ _ c.number_in-want.ensures c.requires.ids_listed c.in_ok-count_fault.ensures _ c.in_err-count_fault-2.ensures)

pub returns-in_err-given_fault : goal.returns-in_err-given_fault
returns-in_err-given_fault c =
    let p = err_from_is_err_and c.from_residual-in_err-given_fault.result c.from_residual-in_err-given_fault.ensures.1 in
    rw (p.1, p.2)
    (auxids-wrong _ _ c.number_in-want.ensures c.requires.ids_listed c.in_ok-count_fault.ensures c.in_ok-count_fault-2.ensures
    c.read_u32s-aux.ensures.answer _ c.in_err-given_fault.ensures)

pub returns-then-not-ids_fit : goal.returns-then-not-ids_fit
returns-then-not-ids_fit c =
    let l = c.requires.ids_listed in
    let pass =
    counts-pass _ _ c.number_in-want.ensures l c.in_ok-count_fault.ensures c.in_ok-count_fault-2.ensures c.read_u32s-aux.ensures.answer
    c.in_ok-given_fault.ensures in
    ids-unfit _ _ pass l c.number_in-nvars.ensures c.ids_fit.ensures (ap not c.if-not-ids_fit.true)

pub returns-then-not-permids_fit : goal.returns-then-not-permids_fit
returns-then-not-permids_fit c =
    let l = c.requires.ids_listed in
    let pass =
    counts-pass _ _ c.number_in-want.ensures l c.in_ok-count_fault.ensures c.in_ok-count_fault-2.ensures c.read_u32s-aux.ensures.answer
    c.in_ok-given_fault.ensures in
    permids-unfit _ _ pass l c.number_in-nvars.ensures c.ids_fit.ensures (ap not c.if-not-ids_fit.false) c.permids_fit.ensures
    (ap not c.if-not-permids_fit.true)

pub returns : goal.returns
returns c =
    let l = c.requires.ids_listed in
    let pass =
    counts-pass _ _ c.number_in-want.ensures l c.in_ok-count_fault.ensures c.in_ok-count_fault-2.ensures c.read_u32s-aux.ensures.answer
    c.in_ok-given_fault.ensures in
    support-passes _ _ pass l c.number_in-nvars.ensures c.ids_fit.ensures (ap not c.if-not-ids_fit.false) c.permids_fit.ensures
    (ap not c.if-not-permids_fit.false)
