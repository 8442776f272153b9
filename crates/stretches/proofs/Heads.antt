-- All chains: each node lies in the chain of its bucket, so where no node of a chain is like an older one, no two nodes are alike.
use mathlib.Core.Path.{◌≡◌, sym, ◌∙◌}
use Prim.Native.Nat.{ℕ, ◌+◌, ◌≤◌, ◌<◌}
use native.Mathlib.Omega.{arith}
use native.Mathlib.Decide.{ℕ_discrete, dec_lt}
use lib.ListN.{length}
use Rattle.store.specs.Store.{Store, head_at}
use Rattle.store.specs.Rules.{bucket, Chains}
use Rattle.store.proofs.Chain.{newest, chains-linked, bucket-small, newest-le, newest-own, newest-gap}
use Rattle.unique_table.specs.Index.{AllAlone}
use Rattle.stretch.specs.Chained.{Chained, LikeNoOlder, ChainAlone}
use Rattle.stretch.proofs.Steps.{linked-falls}

-- n is the newest node of bucket b, or 0
pub record Newest (σ : Store) (b n : ℕ) : Type 0 where
  pub high : n ≤ σ.count
  pub node : 0 < n → 2 ≤ n
  pub mine : 0 < n → bucket σ n ≡ b
  pub all : (m : ℕ) → 2 ≤ m → m ≤ σ.count → bucket σ m ≡ b → m ≤ n

newest_is : (σ : Store) (b n : ℕ) → n ≡ newest σ b σ.count → Newest σ b n
newest_is σ b n q = rw q (record {
  high = newest-le σ b σ.count;
  node = λ h. (newest-own σ b σ.count h).0;
  mine = λ h. (newest-own σ b σ.count h).1;
  all = λ m p h e. not-above m p h e (dec_lt (newest σ b σ.count) m);
})
  where
    not-above : (m : ℕ) → 2 ≤ m → m ≤ σ.count → bucket σ m ≡ b → Dec (newest σ b σ.count < m) → m ≤ newest σ b σ.count
    not-above m p h e (yes d) = absurd (newest-gap σ b σ.count m d p h e)
    not-above m p h e (no d) = omega arith

-- the chains of the buckets below b are judged
abbrev pub BucketsAlone : Store → ℕ → Type 0
BucketsAlone σ b = (x : ℕ) → 2 ≤ x → x ≤ σ.count → bucket σ x < b → LikeNoOlder σ x

module _ (σ : Store) (b : ℕ) where
  pub buckets-more : BucketsAlone σ b → (n : ℕ) → Newest σ b n → ChainAlone σ n → BucketsAlone σ (b + 1)
  buckets-more J n N A x p h l = go (ℕ_discrete (bucket σ x) b)
    where
      go : Dec (bucket σ x ≡ b) → LikeNoOlder σ x
      go (yes q) = let k = N.all x p h q in A x p k (q ∙ sym (N.mine (omega arith)))
      go (no f) = J x p h (omega arith)

module _ (σ : Store) (C : Chains σ) where
  -- a head
  pub head-newest : (b : ℕ) → b < 256 → Newest σ b (head_at σ b)
  head-newest b h = newest_is σ b (head_at σ b) ((chains-linked σ C).head b h)

  pub head-chained : (b : ℕ) → b < 256
      → (σ.count ≤ length σ.level) × ((σ.count ≤ length σ.then) × ((σ.count ≤ length σ.els) × (σ.count ≤ length σ.next))) → Chained σ (head_at σ b)
  head-chained b h z = record {
    level_long = z.0;
    then_long = z.1.0;
    els_long = z.1.1.0;
    next_long = z.1.1.1;
    falls = linked-falls σ (chains-linked σ C);
    high = (head-newest b h).high;
    node = (head-newest b h).node;
  }

module _ (σ : Store) where
  pub buckets-all : (b : ℕ) → 256 ≤ b → BucketsAlone σ b → AllAlone σ σ.count
  buckets-all b h J n p k m q l a = J n p k (omega (arith, bucket-small σ n)) m q l a

  pub all-chain : (n : ℕ) → n ≤ σ.count → AllAlone σ σ.count → ChainAlone σ n
  all-chain n k A x p h e m q l a = A x p (omega arith) m q l a
