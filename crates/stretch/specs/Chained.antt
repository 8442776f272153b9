-- The chains of a store, node by node, and a stretch of one. Document 01, 'Store and meaning': 'each chain holds just its bucket, newest
-- first', 'no two nodes alike'.
use Rattle.std.specs.Prelude.{ℕ, zero, suc, ◌+◌, ◌-◌, ◌≤◌, ◌<◌, ◌≡◌, length}
use Rattle.store.specs.Store.{Store, level_at, then_at, else_at, next_at}
use Rattle.store.specs.Rules.{AlikeNodes, bucket}

-- A stretch has up to 512 nodes. Its little store has a slot more, since nodes count from 2; and its index has three entries for each slot
-- and two for 0.
abbrev pub stretch_slots : ℕ
stretch_slots = 513

abbrev pub stretch_entries : ℕ
stretch_entries = 1541

-- After a node comes the next older node of its bucket, or 0.
pub record ChainsDescend (σ : Store) : Type 0 where
  pub lower : (n : ℕ) → 2 ≤ n → n ≤ σ.count → next_at σ n < n
  pub node : (n : ℕ) → 2 ≤ n → n ≤ σ.count → 0 < next_at σ n → 2 ≤ next_at σ n
  pub mine : (n : ℕ) → 2 ≤ n → n ≤ σ.count → 0 < next_at σ n → bucket σ (next_at σ n) ≡ bucket σ n
  pub gap : (n : ℕ) → 2 ≤ n → n ≤ σ.count → (m : ℕ) → 2 ≤ m → next_at σ n < m → m < n → bucket σ m ≡ bucket σ n → ⊥

-- What a walk along the chain from n on asks for: slots for all nodes, and a node to start at, or 0.
pub record Chained (σ : Store) (n : ℕ) : Type 0 where
  pub level_long : σ.count ≤ length σ.level
  pub then_long : σ.count ≤ length σ.then
  pub els_long : σ.count ≤ length σ.els
  pub next_long : σ.count ≤ length σ.next
  pub falls : ChainsDescend σ
  pub high : n ≤ σ.count
  pub node : 0 < n → 2 ≤ n

-- the number that is met so many steps after n: 0 ends the chain
unfoldable pub node_after : Store → ℕ → ℕ
node_after σ zero = 0
node_after σ (suc n) = next_at σ (suc n)

unfoldable pub met_after : Store → ℕ → ℕ → ℕ
met_after σ n zero = n
met_after σ n (suc i) = node_after σ (met_after σ n i)

-- node p of the store τ holds what node m of σ holds
pub record SameNode (σ : Store) (m : ℕ) (τ : Store) (p : ℕ) : Type 0 where
  pub level : level_at τ p ≡ level_at σ m
  pub then : then_at τ p ≡ then_at σ m
  pub els : else_at τ p ≡ else_at σ m

-- A stretch: nodes 2 to c of τ are the first nodes of the chain from n on, newest first, and `rest` comes after them.
pub record Copied (σ : Store) (n : ℕ) (τ : Store) (c rest : ℕ) : Type 0 where
  pub nodes : (i : ℕ) → i + 1 < c → 0 < met_after σ n i
  pub same : (i : ℕ) → i + 1 < c → SameNode σ (met_after σ n i) τ (i + 2)
  pub stands : rest ≡ met_after σ n (c - 1)

-- every node of the chain from n on
abbrev pub EachOn : Store → ℕ → (ℕ → Type 0) → Type 0
EachOn σ n P = (m : ℕ) → 2 ≤ m → m ≤ n → bucket σ m ≡ bucket σ n → P m

-- node m is like none of the nodes 2 to c of τ
abbrev pub LikeNone : Store → Store → ℕ → ℕ → Type 0
LikeNone σ τ c m = (p : ℕ) → 2 ≤ p → p ≤ c → SameNode σ m τ p → ⊥

-- node n is like no older one
abbrev pub LikeNoOlder : Store → ℕ → Type 0
LikeNoOlder σ n = (m : ℕ) → 2 ≤ m → m < n → AlikeNodes σ m n → ⊥

-- no node of the chain from n on is like one of the nodes 2 to c of τ
abbrev pub NoneLike : Store → ℕ → Store → ℕ → Type 0
NoneLike σ n τ c = EachOn σ n (LikeNone σ τ c)

-- no node of the chain from n on is like an older one
abbrev pub ChainAlone : Store → ℕ → Type 0
ChainAlone σ n = EachOn σ n (LikeNoOlder σ)
