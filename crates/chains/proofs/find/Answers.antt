-- `find` meets its contract: the walk starts at the newest node of the bucket and passes every node of it that could have the level,
-- the then and the else; numbers fall along a chain, so it ends.
use native.Mathlib.Omega.{arith}
use Rattle.edges.specs.Width.{edge_width}
use mir.ValLaws.{to_z-of_z}
use Rattle.store.proofs.Chain.{bucket-under, chains-linked}
use Rattle.chains.proofs.Found.{walking_start, walking-more, walking-less, walking-hit, walking-end}
use Rattle.chains.proofs.find.Goals as goal

pub offset_bounds-store-k : goal.offset_bounds-store-k
offset_bounds-store-k c = omega (arith, bucket-under _ _ _ _ c.bucket-k.ensures)

pub bounds-store-k : goal.bounds-store-k
bounds-store-k c = omega (arith, bucket-under _ _ _ _ c.bucket-k.ensures, c.requires.sizes.heads_long)

pub loop-n-init : goal.loop-n-init
loop-n-init c = walking_start _ _ _ _ (chains-linked _ c.requires.chains) _ c.bucket-k.ensures

pub loop-n-smaller : goal.loop-n-smaller
loop-n-smaller c = walking-less _ _ _ _ _ c.loop-n.invariant (omega arith) (chains-linked _ c.requires.chains)

pub loop-n-preserved : goal.loop-n-preserved
loop-n-preserved c =
    walking-more _ _ _ _ _ c.loop-n.invariant (omega arith) (chains-linked _ c.requires.chains) _ c.holds_at.ensures c.if-holds_at.false

pub returns-then-holds_at : goal.returns-then-holds_at
returns-then-holds_at c =
    rw (to_z-of_z edge_width c.args.t c.ranges.t, to_z-of_z edge_width c.args.e c.ranges.e)
    at (walking-hit _ _ _ _ _ c.loop-n.invariant (omega arith) c.requires.nodes _ c.holds_at.ensures c.if-holds_at.true)

pub returns : goal.returns
returns c =
    rw (to_z-of_z edge_width c.args.t c.ranges.t, to_z-of_z edge_width c.args.e c.ranges.e)
    at (walking-end _ _ _ _ _ _ _ c.loop-n.invariant c.requires.nodes c.magnitude.ensures c.magnitude-2.ensures (omega arith))
