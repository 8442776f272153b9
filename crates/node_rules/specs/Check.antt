-- What the parts of the check of the rules decide, a node at a time.
use Rattle.std.specs.Prelude.{ℕ, ◌≤◌, ◌<◌, ℤ, nat_abs}
use Rattle.store.specs.Store.{Store, level_at, then_at, else_at}
use Rattle.store.specs.Rules.{depth, Fits}

-- an edge that may be a child of node n at level l: 'children are lower numbers, never 0, at deeper levels'
pub record ChildFits (σ : Store) (n l : ℕ) (e : ℤ) : Type 0 where
  pub some : 1 ≤ nat_abs e
  pub low : nat_abs e < n
  pub deep : l < depth σ (nat_abs e)

-- every node fits
abbrev pub AllFit : Store → Type 0
AllFit σ = (n : ℕ) → 2 ≤ n → n ≤ σ.count → Fits σ n (level_at σ n) (then_at σ n) (else_at σ n)
