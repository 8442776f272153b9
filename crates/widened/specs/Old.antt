-- The rules that an old store is judged by: document 01's, as they were before edges had 32 bits. Document 02, request 5: 'an old store, judged by the
-- old rules'. What differs is the limit of the count and where the sum of a bucket wraps.
use Rattle.std.specs.Prelude.{ℕ, zero, suc, ◌+◌, ◌<◌, ◌≡◌, cond, List, [], ◌∷◌, eqb}
use Rattle.widened.specs.OldLimits.{old_limits}
use Rattle.edges.specs.Edge.{bucket_at}
use Rattle.store.specs.Store.{Store, level_at, then_at, else_at, head_at}
use Rattle.store.specs.Rules.{Sizes, Nodes, chain, Zeros}

-- '256 buckets: level + 3 × then + 5 × else, where the sum wraps at 65,536, remainder by 256'
unfoldable pub old_bucket : Store → ℕ → ℕ
old_bucket σ n = bucket_at 16 (level_at σ n) (then_at σ n) (else_at σ n)

-- the nodes of bucket b up to node k, newest first
unfoldable pub old_members : Store → ℕ → ℕ → List ℕ
old_members σ b zero = []
old_members σ b (suc zero) = []
old_members σ b (suc (suc k)) = cond (eqb (old_bucket σ (suc (suc k))) b) (suc (suc k) ∷ old_members σ b (suc k)) (old_members σ b (suc k))

-- 'each chain holds just its bucket, newest first'
abbrev pub OldChains : Store → Type 0
OldChains σ = (b : ℕ) → b < 256 → chain (σ.count + 1) σ (head_at σ b) ≡ old_members σ b σ.count

pub record OldRules (σ : Store) : Type 0 where
  -- 'the count lies from 1 to that length and 32,767'
  pub sizes : Sizes old_limits σ
  pub nodes : Nodes σ
  pub chains : OldChains σ
  pub zeros : Zeros σ
