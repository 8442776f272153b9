-- `meet` meets its contract. The invariant: what is met once the children of the node at hand are, and those on the way back, is what the whole
-- walk meets. A turn goes down to a node that wasn't met, or back to a higher number: the measure is the room that is left, and then how much
-- higher the numbers go.
use native.Mathlib.Omega.{arith}
use Rattle.reached.proofs.NodeWalk.{passed, stored-room, walk-starts, walk-met, walk-length, walk-small, walk_looks, walk_ends, walk-higher, walk_up, walk-mark, walk-room, walk-down}
use Rattle.reached.proofs.meet.Goals as goal

pub returns-then-marks-first-ne0 : goal.returns-then-marks-first-ne0
returns-then-marks-first-ne0 c =
    passed c.requires c.if-marks-first-ne0.true

pub bounds-met-at : goal.bounds-met-at
bounds-met-at c =
    stored-room c.requires c.if-marks-first-ne0.false

pub loop-child-init : goal.loop-child-init
loop-child-init c =
    walk-starts c.requires c.if-marks-first-ne0.false

pub next_child-requires : goal.next_child-requires
next_child-requires c =
    walk_looks c.loop-child.invariant

pub bounds-marks-child : goal.bounds-marks-child
bounds-marks-child c =
    omega (arith, walk-mark c.loop-child.invariant c.in-Some.ensures)

pub offset_bounds-met-next : goal.offset_bounds-met-next
offset_bounds-met-next c =
    omega (arith, (walk-room c.loop-child.invariant c.in-Some.ensures).1)

pub bounds-met-next : goal.bounds-met-next
bounds-met-next c =
    let w = c.loop-child.invariant in
    omega (arith, walk-length w, (walk-room w c.in-Some.ensures).0)

pub overflow_add-next-in-Some : goal.overflow_add-next-in-Some
overflow_add-next-in-Some c =
    omega (arith, (walk-room c.loop-child.invariant c.in-Some.ensures).1)

pub loop-child-smaller-in-Some : goal.loop-child-smaller-in-Some
loop-child-smaller-in-Some c =
    omega (arith, (walk-room c.loop-child.invariant c.in-Some.ensures).0)

pub loop-child-preserved-in-Some : goal.loop-child-preserved-in-Some
loop-child-preserved-in-Some c =
    walk-down c.loop-child.invariant c.in-Some.ensures

pub overflow_sub-parent : goal.overflow_sub-parent
overflow_sub-parent c =
    (walk_looks c.loop-child.invariant).some

pub bounds-marks-n : goal.bounds-marks-n
bounds-marks-n c =
    let l = walk_looks c.loop-child.invariant in omega (arith, l.some, l.mark_there)

pub returns-then-parent-n : goal.returns-then-parent-n
returns-then-parent-n c =
    let b = c in
    let l = b in
    let all = walk_ends l.loop-child.invariant c.in-None.ensures c.if-parent-n.true in
    walk-met l.requires l.if-marks-first-ne0.false l.loop-child.invariant.grown all

pub loop-child-smaller : goal.loop-child-smaller
loop-child-smaller c =
    let b = c in
    let w = b.loop-child.invariant in
    let e = b.in-None.ensures in
    omega (arith, walk-higher w e c.if-parent-n.false, walk-small (walk_up w e c.if-parent-n.false))

pub loop-child-preserved : goal.loop-child-preserved
loop-child-preserved c =
    let b = c in
    walk_up b.loop-child.invariant c.in-None.ensures c.if-parent-n.false

pub overflow_sub-marks-in-Some : goal.overflow_sub-marks-in-Some
overflow_sub-marks-in-Some c =
    (walk-mark c.loop-child.invariant c.in-Some.ensures).0
