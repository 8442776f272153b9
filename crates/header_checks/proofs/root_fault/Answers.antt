-- `root_fault` meets its contract: how many roots there are, each of them, and how many names.
use Rattle.std.proofs.lemmas.Result.{err_from_is_err_and}
use Rattle.header_checks.proofs.Rooted.{front-reach, front-count, roots-wrong, root-unfit, roots-pass}
use Rattle.header_checks.proofs.root_fault.Goals as goal

pub returns-in_err-count_fault : goal.returns-in_err-count_fault
returns-in_err-count_fault c =
    let p = err_from_is_err_and c.from_residual.result c.from_residual.ensures.1 in
    rw (p.1, p.2) (roots-wrong _ _ c.number_in-nroots.ensures c.roots_in-n.ensures.answer _ c.in_err-count_fault.ensures)

pub slice_bounds-roots-end : goal.slice_bounds-roots-end
slice_bounds-roots-end c =
    front-reach _ c.roots_in-n.ensures.answer c.roots_in-n.ensures.front

pub slice_bounds-roots_fault-end : goal.slice_bounds-roots_fault-end
slice_bounds-roots_fault-end c =
    front-count _ c.roots_in-n.ensures.answer c.roots_in-n.ensures.front

pub returns-in_err-roots_fault : goal.returns-in_err-roots_fault
returns-in_err-roots_fault c =
    let p = err_from_is_err_and c.from_residual-in_err-roots_fault.result c.from_residual-in_err-roots_fault.ensures.1 in
    let n = c.roots_in-n.ensures in
    rw (p.1, p.2)
    (root-unfit _ _ c.number_in-nroots.ensures n.answer c.in_ok-count_fault.ensures c.number_in-nnodes.ensures n.front _ c.in_err-roots_fault.ensures)

pub returns : goal.returns
returns c =
    let n = c.roots_in-n.ensures in
    roots-pass _ _ c.number_in-nroots.ensures n.answer c.in_ok-count_fault.ensures c.number_in-nnodes.ensures n.front c.in_ok-roots_fault.ensures
    c.count_names-names.ensures c.given_fault.ensures
