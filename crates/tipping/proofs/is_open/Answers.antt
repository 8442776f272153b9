-- `is_open` meets its contract: not node 1, none beyond the marks, and none that is marked.
use native.Mathlib.Omega.{arith}
use Rattle.tipping.proofs.Marks.{open-one, open-beyond, open-read}
use Rattle.tipping.proofs.is_open.Goals as goal

pub returns-then-n-le1 : goal.returns-then-n-le1
returns-then-n-le1 c =
    open-one _ _ c.if-n-le1.true

pub returns-then-marks-i : goal.returns-then-marks-i
returns-then-marks-i c =
    open-beyond _ _ c.if-n-le1.false (omega (arith, c.if-marks-i.true, c.if-n-le1.false))

pub returns : goal.returns
returns c =
    open-read _ _ c.if-n-le1.false (omega (arith, c.if-marks-i.false, c.if-n-le1.false))
