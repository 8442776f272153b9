-- `remember` meets its contract: each mark that it sets is right, since the edge's answer and the signs on the way give each node's.
use native.Mathlib.Omega.{arith}
use Rattle.evaluation.proofs.Walk.{walk-back}
use Rattle.tipping.proofs.Stepping.{remembering-start, remembering-walks, open-two, open-long, node-small, remembering-less, remembering-on}
use Rattle.tipping.proofs.remember.Goals as goal

pub loop-i-init : goal.loop-i-init
loop-i-init c =
    let s = c in
    let q = walk-back s.args.e s.requires.way_asks.walks in
    remembering-start {says = s.args.says} (rw q s.requires.way_asks) (rw q s.requires.says_value) c.magnitude-n.ensures c.is_minus.ensures

pub overflow_cast-i : goal.overflow_cast-i
overflow_cast-i c =
    omega (arith, node-small c.loop-i.invariant)

pub overflow_sub-i : goal.overflow_sub-i
overflow_sub-i c =
    omega (arith, open-two c.loop-i.invariant c.is_open.ensures c.loop-i-test.true)

pub offset_bounds-marks-i : goal.offset_bounds-marks-i
offset_bounds-marks-i c =
    omega (arith, node-small c.loop-i.invariant)

pub bounds-marks-i : goal.bounds-marks-i
bounds-marks-i c =
    let R = c.loop-i.invariant in
    let q = c.is_open.ensures in
    omega (arith, open-two R q c.loop-i-test.true, open-long R q c.loop-i-test.true)

pub taken-x-requires : goal.taken-x-requires
taken-x-requires c =
    let R = c.loop-i.invariant in (open-two R c.is_open.ensures c.loop-i-test.true, remembering-walks R)

pub loop-i-smaller : goal.loop-i-smaller
loop-i-smaller c =
    let t = c in
    remembering-less t.loop-i.invariant t.is_open.ensures t.loop-i-test.true
    t.taken-x.ensures c.is_minus-here.ensures c.magnitude-n-in-loop-i.ensures

pub loop-i-preserved : goal.loop-i-preserved
loop-i-preserved c =
    let t = c in
    remembering-on t.loop-i.invariant t.is_open.ensures t.loop-i-test.true
    t.taken-x.ensures c.is_minus-here.ensures c.magnitude-n-in-loop-i.ensures t.mark_of.ensures

pub shape_of-marks : goal.shape_of-marks
shape_of-marks c =
    c.loop-i.invariant.long

pub returns : goal.returns
returns c =
    c.loop-i.invariant.marked
