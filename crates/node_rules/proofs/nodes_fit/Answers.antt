-- `nodes_fit` meets its contract: where the last node fits too, all nodes do.
use native.Mathlib.Omega.{arith}
use mir.Val.{SFits}
use mir.ValLaws.{to_z-of_z}
use Rattle.std.proofs.Common.{rules, below_more}
use Rattle.edges.specs.Width.{edge_width}
use Rattle.store.specs.Held.{held}
use Rattle.store.specs.Keeps.{says-yes}
use Rattle.store.specs.Store.{then_at, else_at}
use Rattle.node_rules.proofs.nodes_fit.Goals as goal

pub returns-else-not-node_fits : goal.returns-else-not-node_fits
returns-else-not-node_fits c =
    let t : SFits edge_width (then_at (held c.args.store.now) c.loop-n.n) = search rules in
    let e : SFits edge_width (else_at (held c.args.store.now) c.loop-n.n) = search rules in
    let d = simp to_z-of_z at c.node_fits.ensures in
    says-yes (λ k a b. below_more _ _ c.loop-n.invariant (λ _. d.yes c.if-not-node_fits.false) k (omega arith) a)
