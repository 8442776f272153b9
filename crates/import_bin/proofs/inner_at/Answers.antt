-- `inner_at` meets its contract: its numbers are read and checked in the definition's order.
use mathlib.Core.Path.{ap}
use Rattle.std.proofs.lemmas.Result.{err_from_is_err_and}
use Rattle.codes.specs.Refusals.{step_of}
use Rattle.import_bin.proofs.CodeByte.{inner-refused, inner-resolved}
use Rattle.import_bin.proofs.inner_at.Goals as goal

pub returns-in_err-e : goal.returns-in_err-e
returns-in_err-e c =
    let a = c.args in
    let p = err_from_is_err_and c.from_residual.result c.from_residual.ensures.1 in
    rw (p.1, p.2)
    (inner-refused a.count a.levels.now a.seats.now a.node a.f.now a.b a.code a.at
    c.variable_at-v.ensures
    c.from.ensures c.id_after-t.ensures c.below-then.ensures.result_value
    c.from-2.ensures c.id_after-e.ensures c.below.ensures.result_value
    (ap step_of c.in_err-e.was))

pub returns : goal.returns
returns c =
    let a = c.args in
    inner-resolved a.count a.levels.now a.seats.now a.node a.f.now a.b a.code a.at
    c.variable_at-v.ensures
    c.from.ensures c.id_after-t.ensures c.below-then.ensures.result_value
    c.from-2.ensures c.id_after-e.ensures c.below.ensures.result_value
    (ap step_of c.in_ok-v.was) (ap step_of c.in_ok-t.was) (ap step_of c.in_ok-e.was) c.resolved.ensures
