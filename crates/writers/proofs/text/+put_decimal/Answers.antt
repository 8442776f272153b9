-- `put_decimal` meets its contract.
use native.Mathlib.Omega.{arith}
use Rattle.writers.proofs.Decimal.{length-one, length_more, put_one, put-more}
use Rattle.writers.proofs.text.+put_decimal.Goals as goal

pub bounds-out-at : goal.bounds-out-at
bounds-out-at t c = omega (arith, length-one _ c.if-n-lt10.true)

pub returns-then-n-lt10 : goal.returns-then-n-lt10
returns-then-n-lt10 t c = put_one _ _ _ c.if-n-lt10.true c.digit.ensures

pub put_decimal-end-requires : goal.put_decimal-end-requires
put_decimal-end-requires t c = (omega arith, omega (arith, length_more c.args.n (omega arith) (omega arith)))

pub bounds-out-end : goal.bounds-out-end
bounds-out-end t c = omega (arith, length_more c.args.n (omega arith) (omega arith))

pub overflow_add-result-2 : goal.overflow_add-result-2
overflow_add-result-2 t c = omega (arith, length_more c.args.n (omega arith) (omega arith))

pub returns : goal.returns
returns t c = put-more c.args.n _ _ (omega arith) (omega arith) c.put_decimal-end.ensures c.digit-2.ensures
