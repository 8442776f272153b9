-- The rules of a store, each by its name. Document 01, 'Store and meaning', 'Rules: ..'.
use Rattle.std.specs.Prelude.{ℕ, zero, suc, ◌+◌, ◌≤◌, ◌<◌, ◌≡◌, ◌≢◌, cond, List, [], ◌∷◌, eqb, length, ℤ, pos, nat_abs}
use Rattle.codes.specs.Limits.{Limits}
use Rattle.edges.specs.Edge.{bucket_of}
use Rattle.store.specs.Store.{Store, level_at, then_at, else_at, next_at, head_at}

pub record Sizes (m : Limits) (σ : Store) : Type 0 where
  -- 'the four slot lists are equally long'
  pub then_long : length σ.then ≡ length σ.level
  pub els_long : length σ.els ≡ length σ.level
  pub next_long : length σ.next ≡ length σ.level
  -- 'the count lies from 1 to that length and [the limit]'
  pub count_some : 1 ≤ σ.count
  pub count_slots : σ.count ≤ length σ.level
  pub count_limit : σ.count ≤ m.nodes
  -- 'there are 256 bucket heads'
  pub heads_long : length σ.heads ≡ 256
  -- 'A store has at most 4,096 levels, else 3.'
  pub levels_limit : σ.levels ≤ m.levels

-- Where a node lies: 'Node 1 is yes, deeper than every level'.
abbrev pub depth : Store → ℕ → ℕ
depth σ zero = σ.levels
depth σ (suc zero) = σ.levels
depth σ (suc (suc k)) = level_at σ (suc (suc k))

-- a level, a then and an else that may be node n
pub record Fits (σ : Store) (n l : ℕ) (t e : ℤ) : Type 0 where
  -- 'then is positive and differs from else'
  pub positive : t ≡ pos (nat_abs t)
  pub differ : t ≢ e
  -- 'children are lower numbers, never 0, at deeper levels'
  pub then_some : 1 ≤ nat_abs t
  pub then_low : nat_abs t < n
  pub then_deep : l < depth σ (nat_abs t)
  pub else_some : 1 ≤ nat_abs e
  pub else_low : nat_abs e < n
  pub else_deep : l < depth σ (nat_abs e)
  -- 'levels are below the store's level count'
  pub level_low : l < σ.levels

-- two nodes alike
pub record AlikeNodes (σ : Store) (m n : ℕ) : Type 0 where
  pub level : level_at σ m ≡ level_at σ n
  pub then : then_at σ m ≡ then_at σ n
  pub els : else_at σ m ≡ else_at σ n

-- the nodes are those from 2 to the count
pub record Nodes (σ : Store) : Type 0 where
  pub fits : (n : ℕ) → 2 ≤ n → n ≤ σ.count → Fits σ n (level_at σ n) (then_at σ n) (else_at σ n)
  -- 'no two nodes alike'
  pub alone : (m n : ℕ) → 2 ≤ m → m ≤ σ.count → 2 ≤ n → n ≤ σ.count → AlikeNodes σ m n → m ≡ n

-- '256 buckets: level + 3 × then + 5 × else, where the sum wraps [as `bucket_of` says], remainder by 256'
unfoldable pub bucket : Store → ℕ → ℕ
bucket σ n = bucket_of (level_at σ n) (then_at σ n) (else_at σ n)

-- the nodes of bucket b up to node k, newest first
unfoldable pub members : Store → ℕ → ℕ → List ℕ
members σ b zero = []
members σ b (suc zero) = []
members σ b (suc (suc k)) = cond (eqb (bucket σ (suc (suc k))) b) (suc (suc k) ∷ members σ b (suc k)) (members σ b (suc k))

-- 'chained by a next index and zero ends the chain': the numbers met from n on, at most f of them
unfoldable pub chain : ℕ → Store → ℕ → List ℕ
chain zero σ n = []
chain (suc f) σ n = cond (eqb n 0) [] (n ∷ chain f σ (next_at σ n))

-- 'each chain holds just its bucket, newest first'; one step more than there are nodes shows that the chain ends
abbrev pub Chains : Store → Type 0
Chains σ = (b : ℕ) → b < 256 → chain (σ.count + 1) σ (head_at σ b) ≡ members σ b σ.count

pub record Zero (σ : Store) (n : ℕ) : Type 0 where
  pub level : level_at σ n ≡ 0
  pub then : then_at σ n ≡ pos 0
  pub els : else_at σ n ≡ pos 0
  pub next : next_at σ n ≡ 0

-- 'slot 1 and unused slots are zero'
pub record Zeros (σ : Store) : Type 0 where
  pub first : Zero σ 1
  pub unused : (n : ℕ) → σ.count < n → n ≤ length σ.level → Zero σ n

pub record Rules (m : Limits) (σ : Store) : Type 0 where
  pub sizes : Sizes m σ
  pub nodes : Nodes σ
  pub chains : Chains σ
  pub zeros : Zeros σ
