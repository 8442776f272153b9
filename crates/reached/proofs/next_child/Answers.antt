-- `next_child` meets its contract: each return is a law of the node's children and their marks.
use Rattle.reached.proofs.Children.{child-last, child-then, child-else, child-none}
use Rattle.reached.proofs.next_child.Goals as goal

pub returns-then-n-eq1 : goal.returns-then-n-eq1
returns-then-n-eq1 c =
    child-last _ _ _ c.if-n-eq1.true

pub returns-then-marks-t-eq0 : goal.returns-then-marks-t-eq0
returns-then-marks-t-eq0 c =
    let u = c in child-then _ _ _ u.if-n-eq1.false u.under-t.ensures c.if-marks-t-eq0.true

pub returns-then-marks-e-eq0 : goal.returns-then-marks-e-eq0
returns-then-marks-e-eq0 c =
    let v = c in
    let u = v in
    child-else _ _ _ u.if-n-eq1.false u.under-t.ensures v.if-marks-t-eq0.false v.under-e.ensures c.if-marks-e-eq0.true

pub returns : goal.returns
returns c =
    let v = c in
    let u = v in
    child-none _ _ _ u.if-n-eq1.false u.under-t.ensures v.if-marks-t-eq0.false v.under-e.ensures c.if-marks-e-eq0.false
