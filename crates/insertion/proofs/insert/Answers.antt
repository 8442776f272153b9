-- `insert` meets its contract: the three ways out are the three of its definition, by what was found and by whether there is room; and the
-- index knows the node that is made.
use mathlib.Core.Path.{ap, ◌∙◌}
use mir.ValLaws.{to_z-of_z}
use Rattle.edges.specs.Width.{edge_width}
use Rattle.codes.specs.Limits.{limits}
use Rattle.store.specs.Held.{held_mut}
use Rattle.store.specs.Make.{room_for}
use Rattle.insertion.proofs.Inserting.{edge-found, inserted-found, inserted-none, edge-made, inserted-new}
use Rattle.insertion.proofs.insert.Goals as goal

pub edge_to-requires : goal.edge_to-requires
edge_to-requires c =
    edge-found (held_mut c.args.store.now) _ _ _ _ _ c.requires.rules c.requires.known_nodes _
    (rw (c.as_ref-now.ensures, to_z-of_z edge_width c.args.t c.ranges.t, to_z-of_z edge_width c.args.e c.ranges.e) at c.in-Ok.ensures)

pub returns-in-Ok-clause-made : goal.returns-in-Ok-clause-made
returns-in-Ok-clause-made c =
    inserted-found (held_mut c.args.store.now) _ _ _ _ _ c.requires.rules c.requires.known_nodes _
    (rw (c.as_ref-now.ensures, to_z-of_z edge_width c.args.t c.ranges.t, to_z-of_z edge_width c.args.e c.ranges.e) at c.in-Ok.ensures)
    _ c.edge_to.ensures

pub returns-then-not-has_room-clause-made : goal.returns-then-not-has_room-clause-made
returns-then-not-has_room-clause-made c =
    inserted-none (held_mut c.args.store.now) _ _ _ _ _ c.requires.rules c.requires.known_nodes _
    (rw (c.as_ref-now.ensures, to_z-of_z edge_width c.args.t c.ranges.t, to_z-of_z edge_width c.args.e c.ranges.e) at c.in-Err.ensures)
    _ (c.has_room.ensures ∙ ap (λ σ. room_for limits σ) c.as_ref-now.ensures) c.if-not-has_room.true

pub edge_to-requires-2 : goal.edge_to-requires-2
edge_to-requires-2 c =
    edge-made (held_mut c.args.store.now) _ _ _ _ _ c.requires.rules c.requires.known_nodes _
    (rw (c.as_ref-now.ensures, to_z-of_z edge_width c.args.t c.ranges.t, to_z-of_z edge_width c.args.e c.ranges.e) at c.in-Err.ensures)
    _ (c.has_room.ensures ∙ ap (λ σ. room_for limits σ) c.as_ref-now.ensures) c.if-not-has_room.false _
    (rw (to_z-of_z edge_width c.args.t c.ranges.t, to_z-of_z edge_width c.args.e c.ranges.e) at c.put_node.ensures.added)

pub returns-clause-made : goal.returns-clause-made
returns-clause-made c =
    inserted-new (held_mut c.args.store.now) _ _ _ _ _ c.requires.rules c.requires.known_nodes _
    (rw (c.as_ref-now.ensures, to_z-of_z edge_width c.args.t c.ranges.t, to_z-of_z edge_width c.args.e c.ranges.e) at c.in-Err.ensures)
    _ (c.has_room.ensures ∙ ap (λ σ. room_for limits σ) c.as_ref-now.ensures) c.if-not-has_room.false _
    (rw (to_z-of_z edge_width c.args.t c.ranges.t, to_z-of_z edge_width c.args.e c.ranges.e) at c.put_node.ensures.added)
    _ c.edge_to-2.ensures _ c.enter.ensures
