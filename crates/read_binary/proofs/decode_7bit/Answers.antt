-- `decode_7bit` meets its contract. The loop's invariant, `Going`: what is left to read from `i` on, above `value`, is the number at `at`.
-- A turn reads one byte of what is left, which ends past its start, so the measure, what is left of the file, falls.
use mathlib.Core.Path.{sym}
use native.Mathlib.Omega.{arith}
use Rattle.std.proofs.lemmas.Result.{err_from_is_err_and}
use Rattle.read_binary.proofs.Decoded.{byte_past, byte-within, number-going, going-refused, going-over, going-last, going_more}
use Rattle.read_binary.proofs.decode_7bit.Goals as goal

pub loop-i-init : goal.loop-i-init
loop-i-init c =
    number-going _ _

pub returns-in_err-b : goal.returns-in_err-b
returns-in_err-b c =
    let p = err_from_is_err_and c.from_residual.result c.from_residual.ensures.1 in
    rw (p.1, p.2) (sym (going-refused c.loop-i.invariant (sym c.in_err-b.ensures)))

pub returns-then-value-gt144115188075855871 : goal.returns-then-value-gt144115188075855871
returns-then-value-gt144115188075855871 c =
    sym (going-over c.loop-i.invariant (sym c.in_ok-b.ensures) (omega arith))

pub returns-then-b-eq0 : goal.returns-then-b-eq0
returns-then-b-eq0 c =
    rw c.from.ensures (sym (going-last c.loop-i.invariant (sym c.in_ok-b.ensures) (omega arith) c.if-b-eq0.true))

pub loop-i-smaller : goal.loop-i-smaller
loop-i-smaller c =
    let w = byte-within _ _ (sym c.in_ok-b.ensures) in omega arith

pub loop-i-preserved : goal.loop-i-preserved
loop-i-preserved c =
    rw c.from.ensures (going_more c.loop-i.invariant (sym c.in_ok-b.ensures) (omega arith) c.if-b-eq0.false)

pub returns : goal.returns
returns c =
    sym (going-refused c.loop-i.invariant (byte_past _ _ c.loop-i-test.false))
