-- What is judged of an old store before a node is looked at, and what is copied of it.
use Rattle.std.specs.Prelude.{ℕ, ◌≤◌, ◌≡◌, true, length, take, replicate, pos}
use Rattle.codes.specs.Lent.{laid}
use Rattle.store.specs.Store.{Store, store}
use Rattle.store.specs.Rules.{Sizes, Zeros}
use Rattle.widened.specs.OldLimits.{old_limits}
use Rattle.widened.specs.Widen.{NewLengths, takes, widen_fault}
use Rattle.old_stores.specs.declared.OldStoreRef.{OldStoreRef}

-- the store that lent lists of the old widths hold
abbrev pub held_old : OldStoreRef → Store
held_old s = store s.levels s.count s.level.now s.then.now s.els.now s.next.now s.heads.now

-- the slot of node n is there
pub record SlotThere (σ : Store) (n : ℕ) : Type 0 where
  pub some : 1 ≤ n
  pub level : n ≤ length σ.level
  pub then : n ≤ length σ.then
  pub els : n ≤ length σ.els
  pub next : n ≤ length σ.next

-- What is found before a node is looked at. Nothing: then the new lists can take the store, and sizes and zeros are as the old rules ask. Or the refusal.
pub record Judged (l : NewLengths) (σ : Store) (r : ℕ) : Type 0 where
  pub none : r ≡ 0 → (takes l σ.count ≡ true) × (Sizes old_limits σ × Zeros σ)
  pub found : 1 ≤ r → widen_fault l σ ≡ r

-- the first n slots, and so many heads, are there on both sides
pub record CopyAsks (n buckets : ℕ) (σ τ : Store) : Type 0 where
  pub level_there : (n ≤ length σ.level) × (n ≤ length τ.level)
  pub then_there : (n ≤ length σ.then) × (n ≤ length τ.then)
  pub els_there : (n ≤ length σ.els) × (n ≤ length τ.els)
  pub next_there : (n ≤ length σ.next) × (n ≤ length τ.next)
  pub heads_there : (buckets ≤ length σ.heads) × (buckets ≤ length τ.heads)

pub record CopyPromise (n buckets : ℕ) (σ τ υ : Store) : Type 0 where
  pub levels_left : υ.levels ≡ τ.levels
  pub count_left : υ.count ≡ τ.count
  pub level_left : υ.level ≡ laid (take n σ.level) (replicate (length τ.level) 0)
  pub then_left : υ.then ≡ laid (take n σ.then) (replicate (length τ.then) (pos 0))
  pub els_left : υ.els ≡ laid (take n σ.els) (replicate (length τ.els) (pos 0))
  pub next_left : υ.next ≡ laid (take n σ.next) (replicate (length τ.next) 0)
  pub heads_left : υ.heads ≡ laid (take buckets σ.heads) (replicate (length τ.heads) 0)
