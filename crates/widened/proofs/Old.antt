-- The old rules are today's rules under the old limits. Document 02, request 5: 'an old store, judged by the old rules'. The sum of a bucket wraps
-- elsewhere, and leaves the same remainder for edges of at most 15 bits; under either rules each child is below the count, which is at most 32,767.
use mathlib.Core.Path.{◌≡◌, refl, sym, ◌∙◌}
use mathlib.Core.Logic.{◌↔◌}
use Prim.Native.Nat.{ℕ, zero, suc, ◌≤◌, ◌<◌, ◌^◌}
use native.Mathlib.Omega.{arith}
use native.Mathlib.Nat.{le_refl}
use lib.IntN.{ℤ, nat_abs}
use Rattle.codes.specs.Limits.{limits}
use Rattle.edges.specs.Edge.{bucket_at, bucket_of}
use Rattle.edges.proofs.Edge.{bucket-width}
use Rattle.store.specs.Store.{Store, level_at, then_at, else_at}
use Rattle.store.specs.Rules.{Sizes, Nodes, bucket, members, Rules}
use Rattle.widened.specs.OldLimits.{old_limits, Wider}
use Rattle.widened.specs.Old.{old_bucket, old_members, OldRules}

-- edges of at most 15 bits lie in the same bucket, wherever the sum wraps
pub old-edges : (l : ℕ) (t e : ℤ) → nat_abs t < 2 ^ 15 → nat_abs e < 2 ^ 15 → bucket_of l t e ≡ bucket_at 16 l t e
old-edges l t e h k = bucket-width l t e (omega arith) (omega arith)

module _ (σ : Store) (z : Sizes old_limits σ) (N : Nodes σ) where
  pub old-bucket : (n : ℕ) → 2 ≤ n → n ≤ σ.count → old_bucket σ n ≡ bucket σ n
  unfolding old_bucket bucket
  old-bucket n p h =
      let F = N.fits n p h in
      sym (old-edges (level_at σ n) (then_at σ n) (else_at σ n) (omega (arith, F.then_low, z.count_limit)) (omega (arith, F.else_low, z.count_limit)))

  pub old-members : (b k : ℕ) → k ≤ σ.count → old_members σ b k ≡ members σ b k
  unfolding old_members members
  old-members b zero h = refl
  old-members b (suc zero) h = refl
  old-members b (suc (suc k)) h = rw (old-bucket (suc (suc k)) (omega arith) h, old-members b (suc k) (omega arith))

-- A store keeps the old rules exactly where it keeps today's under the old limits.
pub old-rules : (σ : Store) → OldRules σ ↔ Rules old_limits σ
old-rules σ = (
  λ R. record {
    sizes = R.sizes;
    nodes = R.nodes;
    chains = λ b h. R.chains b h ∙ old-members σ R.sizes R.nodes b σ.count (le_refl σ.count);
    zeros = R.zeros;
  },
  λ R. record {
    sizes = R.sizes;
    nodes = R.nodes;
    chains = λ b h. R.chains b h ∙ sym (old-members σ R.sizes R.nodes b σ.count (le_refl σ.count));
    zeros = R.zeros;
  },
)

-- today's limits allow at least as much
pub old-wider : Wider old_limits limits
old-wider = record { nodes = omega arith; levels = omega arith; input = omega arith }
