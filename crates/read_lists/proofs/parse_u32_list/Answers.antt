-- `parse_u32_list` meets its contract: at each word the entries so far lie in the lent list, and the words that are left decide.
use mathlib.Core.Path.{sym}
use native.Mathlib.Omega.{arith}
use Rattle.std.proofs.lemmas.Result.{err_from_is_err_and}
use Rattle.read_lists.specs.Lists.{u32_of, u32_list}
use Rattle.read_lists.proofs.Judge.{laying-start, laying-end, laying_refused, laying-full, laying-more}
use Rattle.read_numbers.proofs.Number.{number-below}
use Rattle.read_lists.proofs.parse_u32_list.Goals as goal

pub loop-word-init : goal.loop-word-init
loop-word-init c =
    rw (c.into_iter-word-iterator.ensures.into_iter_gives, c.of-word-items.ensures) (laying-start u32_of _ _ _)

pub returns-in_err-value-clause-result_value : goal.returns-in_err-value-clause-result_value
unfolding u32_list
returns-in_err-value-clause-result_value c =
    let p = err_from_is_err_and c.from_residual.result c.from_residual.ensures.1 in
    rw (p.1, p.2) (laying_refused u32_of _ _ _ c.loop-word.invariant c.in-Some.ensures.steps (sym c.in_err-value.ensures)).0

pub returns-in_err-value-clause-dst_after : goal.returns-in_err-value-clause-dst_after
unfolding u32_list
returns-in_err-value-clause-dst_after c =
    (laying_refused u32_of _ _ _ c.loop-word.invariant c.in-Some.ensures.steps (sym c.in_err-value.ensures)).1

pub returns-then-max-n-clause-result_value : goal.returns-then-max-n-clause-result_value
unfolding u32_list
returns-then-max-n-clause-result_value c =
    (laying-full u32_of _ _ _ c.loop-word.invariant c.in-Some.ensures.steps (sym c.in_ok-value.ensures) c.if-max-n.true).0

pub returns-then-max-n-clause-dst_after : goal.returns-then-max-n-clause-dst_after
unfolding u32_list
returns-then-max-n-clause-dst_after c =
    (laying-full u32_of _ _ _ c.loop-word.invariant c.in-Some.ensures.steps (sym c.in_ok-value.ensures) c.if-max-n.true).1

pub overflow_cast-value : goal.overflow_cast-value
overflow_cast-value c =
    record { fits = number-below _ _ _ (omega arith) (sym c.in_ok-value.ensures) }

pub loop-word-preserved : goal.loop-word-preserved
loop-word-preserved c =
    rw c.put.ensures (laying-more u32_of _ _ _ c.loop-word.invariant c.in-Some.ensures.steps (sym c.in_ok-value.ensures) c.if-max-n.false)

pub returns-clause-result_value : goal.returns-clause-result_value
unfolding u32_list
returns-clause-result_value c =
    (laying-end u32_of _ _ _ c.loop-word.invariant c.in-None.ensures.steps.0).0

pub returns-clause-dst_after : goal.returns-clause-dst_after
unfolding u32_list
returns-clause-dst_after c =
    (laying-end u32_of _ _ _ c.loop-word.invariant c.in-None.ensures.steps.0).1
