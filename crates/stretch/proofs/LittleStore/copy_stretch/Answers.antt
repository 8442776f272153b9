-- `copy_stretch` meets its contract: each turn copies the node that the walk has come to, the first one too.
use mathlib.Core.Path.{refl}
use Prim.Native.Nat.{◌<◌}
use native.Mathlib.Omega.{arith}
use mir.Val.{SFits}
use mir.ValLaws.{to_z-of_z}
use lib.ListN.{length}
use Rattle.std.proofs.Common.{rules}
use Rattle.edges.specs.Width.{edge_width}
use Rattle.store.specs.Held.{held}
use Rattle.store.specs.Store.{then_at, else_at}
use Rattle.stretch.specs.Chained.{stretch_slots}
use Rattle.stretch.proofs.Copying.{copying-start, copying-more, copying-two}
use Rattle.stretch.proofs.LittleStore.copy_stretch.Goals as goal
use Rattle.stretch.proofs.LittleStore.copy_stretch.Goals.{then-loop-at-test+else-slot-lt-SLOTS, else-loop-at-test}

pub loop-at-init : goal.loop-at-init
loop-at-init c = copying-start _ _ c.requires.0 _ _ _

pub loop-at-preserved : goal.loop-at-preserved
loop-at-preserved c =
    let t : SFits edge_width (then_at (held c.args.store.now) c.loop-at.at) = search rules in
    let e : SFits edge_width (else_at (held c.args.store.now) c.loop-at.at) = search rules in
    let low : c.loop-at.slot < stretch_slots = omega arith in
    let l : c.loop-at.slot < length c.loop-at.self.level = search rules in
    let m : c.loop-at.slot < length c.loop-at.self.then = search rules in
    let r : c.loop-at.slot < length c.loop-at.self.els = search rules in
    copying-more _ _ c.requires.0 _ _ _ _ _ c.loop-at.invariant (omega arith) low l m r _ _ _ refl (to_z-of_z edge_width _ t) (to_z-of_z edge_width _ e)

pub returns-clause-le_last : goal.returns-clause-le_last
returns-clause-le_last c =
    let K = c.loop-at.invariant in (
      copying-two _ _ c.requires.0 _ _ _ _ _ K c.requires.1 (λ h. elim c.loop-at-test.branch [
        | then-loop-at-test+else-slot-lt-SLOTS w ↦ omega arith
        | else-loop-at-test w ↦ w.loop-at-test.false
      ]),
      K.high,
    )
