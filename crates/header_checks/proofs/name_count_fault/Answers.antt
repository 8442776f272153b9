-- `name_count_fault` meets its contract.
use Rattle.std.proofs.lemmas.Result.{err_from_is_err_and}
use Rattle.header_checks.proofs.NameCounts.{ordered-wrong, supp-wrong, counts-pass}
use Rattle.header_checks.proofs.name_count_fault.Goals as goal

pub returns-in_err-given_fault : goal.returns-in_err-given_fault
returns-in_err-given_fault c =
    let p = err_from_is_err_and c.from_residual.result c.from_residual.ensures.1 in
    rw (p.1, p.2) (ordered-wrong _ _ c.requires.name_counts c.number_in-nvars.ensures c.number_in-nsuppvars.ensures _ c.in_err-given_fault.ensures)

pub returns-in_err-given_fault-2 : goal.returns-in_err-given_fault-2
returns-in_err-given_fault-2 c =
    let p = err_from_is_err_and c.from_residual-in_err-given_fault-2.result c.from_residual-in_err-given_fault-2.ensures.1 in
    rw (p.1, p.2)
    (supp-wrong _ _ c.requires.name_counts c.number_in-nvars.ensures c.number_in-nsuppvars.ensures c.in_ok-given_fault.ensures _ c.in_err-given_fault-2.ensures)

pub returns : goal.returns
returns c =
    counts-pass _ _ c.requires.name_counts c.number_in-nvars.ensures c.number_in-nsuppvars.ensures c.in_ok-given_fault.ensures
    c.in_ok-given_fault-2.ensures c.given_fault-3.ensures
