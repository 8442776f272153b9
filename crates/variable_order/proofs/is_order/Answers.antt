-- `is_order` meets its contract. The invariant: the first v entries are levels that differ, so that the others decide, and the table has
-- their variables.
use Prim.Native.Nat.{◌≤◌}
use native.Mathlib.Omega.{arith}
use lib.ListN.{length}
use Rattle.variable_order.proofs.Ordering.{ordering-start, ordering-over, ordering-twice, ordering-more, ordering-end, ordering-seats, order-uneven}
use Rattle.variable_order.proofs.is_order.Goals as goal

pub returns-then-order-levels-clause-value : goal.returns-then-order-levels-clause-value
returns-then-order-levels-clause-value c =
    order-uneven _ _ c.if-order-levels.true

pub loop-v-init : goal.loop-v-init
loop-v-init c =
    ordering-start _ _ _ c.requires.vars_value

pub returns-then-levels-l-clause-value : goal.returns-then-levels-l-clause-value
returns-then-levels-l-clause-value c =
    ordering-over _ _ _ c.loop-v.invariant (omega arith) c.if-order-levels.false c.if-levels-l.true

pub returns-then-vars-l-ne0-clause-value : goal.returns-then-vars-l-ne0-clause-value
returns-then-vars-l-ne0-clause-value c =
    ordering-twice _ _ _ c.loop-v.invariant (omega arith) c.if-order-levels.false c.if-vars-l-ne0.true

pub loop-v-preserved : goal.loop-v-preserved
loop-v-preserved c =
    ordering-more _ _ _
    c.loop-v.invariant
    (omega arith)
    c.requires.levels_in_bounds
    c.if-levels-l.false
    c.if-vars-l-ne0.false

pub returns-clause-value : goal.returns-clause-value
returns-clause-value c =
    let o = c.loop-v.invariant in
    let h : length c.args.order.now ≤ c.loop-v.v = omega arith in
    ordering-end _ _ _ o h c.if-order-levels.false

pub returns-clause-seats_if : goal.returns-clause-seats_if
returns-clause-seats_if c =
    let o = c.loop-v.invariant in
    let h : length c.args.order.now ≤ c.loop-v.v = omega arith in
    ordering-seats _ _ _ o h
