-- `recall` meets its contract: node 1 is yes, and beyond the marks nothing is remembered.
use mathlib.Core.Path.{refl}
use Rattle.tipping.proofs.Marks.{recall-one, recall-read, recall-beyond}
use Rattle.tipping.proofs.recall.Goals as goal

pub returns-then-n-le1 : goal.returns-then-n-le1
returns-then-n-le1 c =
    recall-one _ _ c.if-n-le1.true

pub returns-then-marks-i : goal.returns-then-marks-i
returns-then-marks-i c =
    recall-beyond _ _ c.if-n-le1.false c.if-marks-i.true

pub returns : goal.returns
returns c =
    recall-read _ _ c.if-n-le1.false refl
