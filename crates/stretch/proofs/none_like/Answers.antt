-- `none_like` meets its contract: no node that was passed is like one of the little store.
use Prim.Native.Nat.{◌<◌}
use native.Mathlib.Omega.{arith}
use mir.Val.{SFits}
use mir.ValLaws.{to_z-of_z}
use Rattle.std.proofs.Common.{rules}
use Rattle.edges.specs.Width.{edge_width}
use Rattle.store.specs.Held.{held}
use Rattle.store.specs.Store.{level_at, then_at, else_at}
use Rattle.store.specs.Keeps.{says-no}
use Rattle.unique_table.specs.Index.{Sought}
use Rattle.stretch.proofs.Passed.{passed-one, passed-node}
use Rattle.stretch.proofs.Stretched.{sought-none, sought-like}
use Rattle.stretch.proofs.none_like.Goals as goal
use Rattle.stretch.proofs.none_like.Goals.{After-seek-x}

-- what the search for the level, the then and the else of the node that the walk has come to gives
abbrev SoughtNode : After-seek-x → Type 0
SoughtNode c =
    let σ = held c.args.store.now in
    let n = c.loop-at.at in
    Sought c.args.width (held c.args.nodes.now) c.args.nodes.now.count c.args.index.now (level_at σ n) (then_at σ n) (else_at σ n) c.seek-x.result

sought : (c : After-seek-x) → SoughtNode c
sought c =
    let t : SFits edge_width (then_at (held c.args.store.now) c.loop-at.at) = search rules in
    let e : SFits edge_width (else_at (held c.args.store.now) c.loop-at.at) = search rules in
    simp to_z-of_z at c.seek-x.ensures

pub returns-then-index-x-ne0 : goal.returns-then-index-x-ne0
returns-then-index-x-ne0 c =
    let s = sought (goal.at.returns-then-index-x-ne0 c).After-seek-x in
    let on : 0 < c.loop-at.at = omega arith in
    says-no (λ A. sought-like _ _ _ _ c.requires.indexed _ _ _ s c.if-index-x-ne0.true (passed-node _ _ _ _ c.loop-at.invariant on A))

pub loop-at-preserved : goal.loop-at-preserved
loop-at-preserved c =
    let s = sought (goal.at.loop-at-preserved c).After-seek-x in
    let on : 0 < c.loop-at.at = omega arith in
    passed-one _ _ _ _ c.loop-at.invariant on (sought-none _ _ _ _ c.requires.indexed _ _ _ s c.if-index-x-ne0.false)
