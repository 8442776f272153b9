-- `nodes_fit` meets its contract: all nodes below n fit.
use Prim.Native.Nat.{ℕ, ◌≤◌, ◌<◌}
use Rattle.store.specs.Held.{held}
use Rattle.store.specs.Rules.{Fits}
use Rattle.store.specs.Store.{level_at, then_at, else_at}
use Rattle.node_rules.proofs.nodes_fit.Given as goal

abbrev pub invariant-loop-n : goal.invariant-loop-n
invariant-loop-n l =
    (k : ℕ) → k < l.n → 2 ≤ k → Fits (held l.store) k (level_at (held l.store) k) (then_at (held l.store) k) (else_at (held l.store) k)
