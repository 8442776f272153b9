-- `drop_node` meets its contract: its stores are those of `dropped`.
use native.Mathlib.Omega.{arith}
use mir.ValLaws.{to_z-of_z}
use Rattle.store.specs.Held.{held_mut}
use Rattle.store.proofs.Chain.{bucket-under}
use Rattle.slots.proofs.Placed.{slot-cleared}
use Rattle.slots.proofs.drop_node.Goals as goal

pub offset_bounds-store-b : goal.offset_bounds-store-b
offset_bounds-store-b c = omega (arith, bucket-under _ _ _ _ c.bucket-b.ensures)

pub bounds-store-b : goal.bounds-store-b
bounds-store-b c = omega (arith, bucket-under _ _ _ _ c.bucket-b.ensures, c.requires.heads_long)

pub returns-clause-dropped : goal.returns-clause-dropped
returns-clause-dropped c =
    slot-cleared (held_mut c.args.store.now) _ _ _ (grind (arith, to_z-of_z)) (grind (arith, to_z-of_z)) c.bucket-b.ensures
