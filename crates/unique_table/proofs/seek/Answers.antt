-- `seek` meets its contract: at each entry that it comes to, every node that it looks for is still to be met; and the numbers that it meets
-- rise, so it ends.
use Prim.Native.Nat.{◌<◌}
use native.Mathlib.Omega.{arith}
use lib.ListN.{length}
use mir.ValLaws.{to_z-of_z}
use Rattle.edges.specs.Width.{edge_width}
use Rattle.unique_table.proofs.Mixed.{head-below}
use Rattle.unique_table.proofs.Seeking.{seeking-start, seeking-more, seeking-hit, seeking-end}
use Rattle.unique_table.proofs.seek.Goals as goal
use Rattle.unique_table.proofs.seek.Goals.{After-head-at}

-- the search begins within the index
within : (c : After-head-at) → c.head-at.result < length c.args.index.now
within c =
    let t = to_z-of_z edge_width c.args.t c.ranges.t in
    let e = to_z-of_z edge_width c.args.e c.ranges.e in
    omega (arith, rw (t, e) at c.head-at.ensures, head-below c.args.width c.args.l c.args.t c.args.e c.requires.indexed.some, c.requires.indexed.room)

pub offset_bounds-index-at : goal.offset_bounds-index-at
offset_bounds-index-at c =
    omega (arith, within (goal.at.offset_bounds-index-at c).After-head-at)

pub bounds-index-at : goal.bounds-index-at
bounds-index-at c =
    within (goal.at.bounds-index-at c).After-head-at

pub loop-n-init : goal.loop-n-init
loop-n-init c =
    seeking-start _ _ _ _ c.requires.indexed _ _ _ _ _ c.key-k.ensures c.head-at.ensures

pub returns-then-holds_at : goal.returns-then-holds_at
returns-then-holds_at c =
    rw (to_z-of_z edge_width c.args.t c.ranges.t, to_z-of_z edge_width c.args.e c.ranges.e) at
    (seeking-hit _ _ _ _ c.requires.indexed _ _ _ _ _ _ c.loop-n.invariant c.loop-n-test.true _ c.holds_at.ensures c.if-holds_at.true)

pub loop-n-preserved : goal.loop-n-preserved
loop-n-preserved c =
    seeking-more _ _ _ _ c.requires.indexed _ _ _ _ _ _ c.loop-n.invariant c.loop-n-test.true _ c.holds_at.ensures c.if-holds_at.false

pub returns : goal.returns
returns c =
    rw (to_z-of_z edge_width c.args.t c.ranges.t, to_z-of_z edge_width c.args.e c.ranges.e) at
    (seeking-end _ _ _ _ c.requires.indexed _ _ _ _ _ _ c.loop-n.invariant c.loop-n-test.false)
