-- `distinct` meets its contract: the nodes below n are in the index, and none of them is like an older one.
use mathlib.Core.List.{List}
use Prim.Native.Nat.{ℕ, ◌-◌}
use native.Mathlib.Omega.{arith}
use Rattle.std.proofs.Common.{rules}
use mir.Val.{SFits}
use mir.ValLaws.{to_z-of_z}
use Rattle.edges.specs.Width.{edge_width}
use Rattle.store.specs.Keeps.{says-yes, says-no}
use Rattle.store.specs.Held.{held}
use Rattle.store.specs.Store.{Store, level_at, then_at, else_at}
use Rattle.unique_table.specs.Index.{Sought}
use Rattle.unique_table.proofs.Built.{built-bad, built-more, built-alone, built-index}
use Rattle.unique_table.proofs.distinct.Goals as goal
use Rattle.unique_table.proofs.distinct.Goals.{After-seek-at}

-- what the search for node n's level, then and else gives
abbrev SoughtNode : ℕ → Store → ℕ → List ℕ → ℕ → Type 0
SoughtNode width σ n ix at = Sought width σ (n - 1) ix (level_at σ n) (then_at σ n) (else_at σ n) at

sought : (c : After-seek-at) → SoughtNode c.args.width (held c.args.store.now) c.loop-n.n c.loop-n.index c.seek-at.result
sought c =
    let t : SFits edge_width (then_at (held c.args.store.now) c.loop-n.n) = search rules in
    let e : SFits edge_width (else_at (held c.args.store.now) c.loop-n.n) = search rules in
    simp to_z-of_z at c.seek-at.ensures

pub returns-then-index-at-ne0-clause-decides : goal.returns-then-index-at-ne0-clause-decides
returns-then-index-at-ne0-clause-decides c =
    let s = sought (goal.at.returns-then-index-at-ne0-clause-decides c).After-seek-at in
    says-no (built-bad _ _ _ _ _ _ c.loop-n.invariant c.loop-n-test.true _ s c.if-index-at-ne0.true)

pub loop-n-preserved : goal.loop-n-preserved
loop-n-preserved c =
    let s = sought (goal.at.loop-n-preserved c).After-seek-at in
    built-more _ _ _ _ _ _ c.loop-n.invariant c.loop-n-test.true _ s c.requires.le_width.2 c.if-index-at-ne0.false

pub returns-else-index-at-ne0-clause-decides : goal.returns-else-index-at-ne0-clause-decides
returns-else-index-at-ne0-clause-decides c =
    let s = sought (goal.at.returns-else-index-at-ne0-clause-decides c).After-seek-at in
    let b = built-more _ _ _ _ _ _ c.loop-n.invariant c.loop-n-test.true _ s c.requires.le_width.2 c.if-index-at-ne0.false in
    says-yes (built-alone _ _ _ _ _ _ b (omega arith))

pub returns-else-index-at-ne0-clause-indexed : goal.returns-else-index-at-ne0-clause-indexed
returns-else-index-at-ne0-clause-indexed c =
    let s = sought (goal.at.returns-else-index-at-ne0-clause-indexed c).After-seek-at in
    let b = built-more _ _ _ _ _ _ c.loop-n.invariant c.loop-n-test.true _ s c.requires.le_width.2 c.if-index-at-ne0.false in
    λ q. built-index _ _ _ _ _ _ b (omega arith)
