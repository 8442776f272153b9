-- `parse_single` meets its contract: no byte is 14, else the digits decide, and a value that is not too large has its number.
use mathlib.Core.Path.{sym, ap, ◌∙◌}
use native.Mathlib.Omega.{arith}
use Rattle.std.proofs.lemmas.Result.{err_from_is_err_and}
use Rattle.codes.specs.Answer.{value}
use Rattle.read_numbers.proofs.Number.{single-none, single-some, number-below}
use Rattle.read_numbers.proofs.parse_single.Goals as goal

pub returns-then-input-eq0 : goal.returns-then-input-eq0
returns-then-input-eq0 g c =
    sym (single-none _ _ c.if-input-eq0.true)

pub returns-in_err-value : goal.returns-in_err-value
returns-in_err-value g c =
    let p = err_from_is_err_and c.from_residual.result c.from_residual.ensures.1 in
    rw (p.1, p.2) (rw c.MAX.ensures at c.in_err-value.ensures ∙ sym (single-some _ _ c.if-input-eq0.false))

pub narrowed-requires : goal.narrowed-requires
narrowed-requires g c =
    let b = number-below _ _ _ (omega arith) (sym c.in_ok-value.ensures) in
    omega (arith, b, c.MAX.ensures)

pub returns : goal.returns
returns g c =
    ap value c.narrowed.ensures ∙ rw c.MAX.ensures at c.in_ok-value.ensures ∙ sym (single-some _ _ c.if-input-eq0.false)
