-- `put_node` meets its contract: its stores are those of `added`.
use native.Mathlib.Omega.{arith}
use Rattle.edges.specs.Width.{edge_width}
use mir.ValLaws.{to_z-of_z}
use Rattle.store.specs.Held.{held_mut}
use Rattle.store.proofs.Chain.{bucket-under}
use Rattle.slots.proofs.Placed.{slot-filled}
use Rattle.slots.proofs.put_node.Goals as goal

pub offset_bounds-store-b : goal.offset_bounds-store-b
offset_bounds-store-b c = omega (arith, bucket-under _ _ _ _ c.bucket-b.ensures)

pub bounds-store-b : goal.bounds-store-b
bounds-store-b c = omega (arith, bucket-under _ _ _ _ c.bucket-b.ensures, c.requires.sizes.heads_long)

pub offset_bounds-store-b-2 : goal.offset_bounds-store-b-2
offset_bounds-store-b-2 c = omega (arith, bucket-under _ _ _ _ c.bucket-b.ensures)

pub bounds-store-b-2 : goal.bounds-store-b-2
bounds-store-b-2 c = omega (arith, bucket-under _ _ _ _ c.bucket-b.ensures, c.requires.sizes.heads_long)

pub returns-clause-added : goal.returns-clause-added
returns-clause-added c =
    slot-filled (held_mut c.args.store.now) _ _ c.args.t _ c.args.e _ (to_z-of_z edge_width c.args.t c.ranges.t)
    (to_z-of_z edge_width c.args.e c.ranges.e) c.bucket-b.ensures
