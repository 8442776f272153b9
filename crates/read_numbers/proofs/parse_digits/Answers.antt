-- `parse_digits` meets its contract: the digits that are left, after the value so far, give what the whole word gives.
use mathlib.Core.Path.{sym, ◌∙◌}
use native.Mathlib.Omega.{arith}
use borrow.Author.Rules.{rules}
use Rattle.codes.proofs.Machine.{run-go, run-stop, run_end}
use Rattle.codes.proofs.Bytes.{digit-bounds}
use Rattle.read_numbers.proofs.Number.{digit-more, digit-over, digit-foreign, number-starts}
use Rattle.read_numbers.proofs.parse_digits.Goals as goal

pub loop-x-init : goal.loop-x-init
loop-x-init c =
    (search rules, number-starts _ _ _)

pub returns-then-not-is_digit : goal.returns-then-not-is_digit
returns-then-not-is_digit c =
    rw c.foreign.ensures (sym (c.loop-x.invariant.1 ∙ run-stop _ _ _ _ c.loop-x-test.true (digit-foreign _ _ _ _ (sym c.is_digit.ensures ∙ c.if-not-is_digit.true))))

pub overflow_sub-d : goal.overflow_sub-d
overflow_sub-d c =
    let b = digit-bounds _ (sym c.is_digit.ensures ∙ c.if-not-is_digit.false) in
    omega arith

pub overflow_sub-max : goal.overflow_sub-max
overflow_sub-max c =
    let b = digit-bounds _ (sym c.is_digit.ensures ∙ c.if-not-is_digit.false) in
    omega arith

pub returns-then-max-d : goal.returns-then-max-d
returns-then-max-d c =
    let b = digit-bounds _ (sym c.is_digit.ensures ∙ c.if-not-is_digit.false) in
    sym (c.loop-x.invariant.1 ∙ run-stop _ _ _ _ c.loop-x-test.true (digit-over _ _ _ _ (sym c.is_digit.ensures ∙ c.if-not-is_digit.false) (omega arith)))

pub loop-x-preserved : goal.loop-x-preserved
loop-x-preserved c =
    let b = digit-bounds _ (sym c.is_digit.ensures ∙ c.if-not-is_digit.false) in
    (omega arith, c.loop-x.invariant.1 ∙ run-go _ _ _ _ c.loop-x-test.true (digit-more _ _ _ _ (sym c.is_digit.ensures ∙ c.if-not-is_digit.false) (omega arith)))

pub returns : goal.returns
returns c =
    sym (c.loop-x.invariant.1 ∙ run_end _ _ _ _ c.loop-x-test.false)
