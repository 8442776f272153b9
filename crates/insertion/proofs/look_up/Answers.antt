-- `look_up` meets its contract: a search of the index, or along the chain, finds what the definition's search finds.
use native.Mathlib.Omega.{arith}
use mir.ValLaws.{to_z-of_z}
use Rattle.edges.specs.Width.{edge_width}
use Rattle.store.specs.Held.{held}
use Rattle.insertion.proofs.Inserting.{looked-along, looked-found, looked-none}
use Rattle.insertion.proofs.look_up.Goals as goal

pub returns-then-width-eq0 : goal.returns-then-width-eq0
returns-then-width-eq0 c =
    rw (c.ok_or.ensures.value, c.find.ensures, to_z-of_z edge_width c.args.t c.ranges.t, to_z-of_z edge_width c.args.e c.ranges.e)
    (looked-along (held c.args.store.now) _ _ _ _ _ c.if-width-eq0.true)

pub returns-then-n-eq0 : goal.returns-then-n-eq0
returns-then-n-eq0 c =
    looked-none (held c.args.store.now) _ _ _ _ _ c.requires.rules c.requires.known_nodes (omega arith) _
    (rw (to_z-of_z edge_width c.args.t c.ranges.t, to_z-of_z edge_width c.args.e c.ranges.e) at c.seek-at.ensures) c.if-n-eq0.true

pub returns-else-n-eq0 : goal.returns-else-n-eq0
returns-else-n-eq0 c =
    looked-found (held c.args.store.now) _ _ _ _ _ c.requires.rules c.requires.known_nodes (omega arith) _
    (rw (to_z-of_z edge_width c.args.t c.ranges.t, to_z-of_z edge_width c.args.e c.ranges.e) at c.seek-at.ensures) c.if-n-eq0.false
