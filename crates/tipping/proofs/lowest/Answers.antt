-- `lowest` meets its contract: above the node at hand no level tips, so the first that does is the lowest, and at node 1 there is none.
use mathlib.Core.Path.{refl, ◌∙◌}
use lib.ListN.{length}
use native.Mathlib.Omega.{arith}
use Rattle.evaluation.proofs.Walk.{walk-back}
use Rattle.tipping.proofs.Stepping.{way-start, descending-start, descending-walks, way-small, way-holds, other-asks, found-tipped, descending-less, descending-on, end-tipped}
use Rattle.tipping.proofs.lowest.Goals as goal

-- the root is asked, with no answer remembered, and then its way is
pub ask-says-requires : goal.ask-says-requires
ask-says-requires c =
    let p = c in
    let s = p in
    let q = walk-back s.args.root s.requires.1 in
    way-start (rw q s.requires.0) (rw q s.requires.1) (length s.args.marks.now) (p.fill.ensures.after (λ y h. h))

pub remember-requires-clause-way_asks : goal.remember-requires-clause-way_asks
remember-requires-clause-way_asks c =
    let p = c in
    let s = p in
    let q = walk-back s.args.root s.requires.1 in
    way-start (rw q s.requires.0) (rw q s.requires.1) (length s.args.marks.now) (p.fill.ensures.after (λ y h. h))

pub remember-requires-clause-says_value : goal.remember-requires-clause-says_value
remember-requires-clause-says_value c =
    let p = c in
    let s = p in
    let q = walk-back s.args.root s.requires.1 in
    c.ask-says.ensures

pub loop-n-init : goal.loop-n-init
loop-n-init c =
    let p = c in
    let s = p in
    let q = walk-back s.args.root s.requires.1 in
    descending-start (rw q s.requires.0) (rw q s.requires.1) refl
    p.remember.ensures p.ask-says.ensures c.magnitude-n.ensures c.is_minus.ensures

pub other-x-requires : goal.other-x-requires
other-x-requires c =
    (c.loop-n-test.true, descending-walks c.loop-n.invariant)

pub ask-turned-requires : goal.ask-turned-requires
ask-turned-requires c =
    other-asks c.loop-n.invariant c.loop-n-test.true c.other-x.ensures

pub overflow_cast-result : goal.overflow_cast-result
overflow_cast-result c =
    omega (arith, way-small c.loop-n.invariant)

pub overflow_sub-result : goal.overflow_sub-result
overflow_sub-result c =
    omega (arith, c.loop-n-test.true)

pub offset_bounds-store-n : goal.offset_bounds-store-n
offset_bounds-store-n c =
    omega (arith, way-small c.loop-n.invariant)

pub bounds-store-n : goal.bounds-store-n
bounds-store-n c =
    let l = c in way-holds l.loop-n.invariant l.loop-n-test.true

pub shape_of-marks-then-turned-here : goal.shape_of-marks-then-turned-here
shape_of-marks-then-turned-here c =
    let q = c in c.loop-n.invariant.long ∙ q.remember.auto.marks ∙ q.fill.ensures.len

pub returns-then-turned-here : goal.returns-then-turned-here
returns-then-turned-here c =
    let a = c in
    let l = a in
    let s = l in
    found-tipped l.loop-n.invariant l.loop-n-test.true a.other-x.ensures a.ask-turned.ensures c.if-turned-here.true
    (walk-back s.args.root s.requires.1)

-- it answers alike
pub remember-requires-in-loop-n-clause-way_asks : goal.remember-requires-in-loop-n-clause-way_asks
remember-requires-in-loop-n-clause-way_asks c =
    let a = c in
    let l = a in
    other-asks l.loop-n.invariant l.loop-n-test.true a.other-x.ensures

pub remember-requires-in-loop-n-clause-says_value : goal.remember-requires-in-loop-n-clause-says_value
remember-requires-in-loop-n-clause-says_value c =
    let a = c in
    let l = a in
    a.ask-turned.ensures

pub taken-t-requires : goal.taken-t-requires
taken-t-requires c =
    let l = c in (l.loop-n-test.true, descending-walks l.loop-n.invariant)

pub loop-n-smaller : goal.loop-n-smaller
loop-n-smaller c =
    let t = c in
    let a = t in
    let l = a in
    descending-less l.loop-n.invariant l.loop-n-test.true a.other-x.ensures a.ask-turned.ensures t.if-turned-here.false
    t.taken-t.ensures c.is_minus-here.ensures c.magnitude-n-in-loop-n.ensures

pub loop-n-preserved : goal.loop-n-preserved
loop-n-preserved c =
    let t = c in
    let a = t in
    let l = a in
    let r = t in
    descending-on l.loop-n.invariant l.loop-n-test.true a.other-x.ensures a.ask-turned.ensures r.if-turned-here.false t.taken-t.ensures
    c.is_minus-here.ensures c.magnitude-n-in-loop-n.ensures r.remember-in-loop-n.auto.marks r.remember-in-loop-n.ensures

-- node 1
pub shape_of-marks : goal.shape_of-marks
shape_of-marks c =
    let q = c in c.loop-n.invariant.long ∙ q.remember.auto.marks ∙ q.fill.ensures.len

pub returns : goal.returns
returns c =
    let s = c in end-tipped c.loop-n.invariant c.loop-n-test.false (walk-back s.args.root s.requires.1)
