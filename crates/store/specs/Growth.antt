-- The edges of a store, and stores that have gained nodes. Document 01, 'Store and meaning'.
use Rattle.std.specs.Prelude.{ℕ, ◌≤◌, ◌≡◌, Bool, ◌&&◌, leb, ℤ, nat_abs}
use Rattle.store.specs.Store.{Store, level_at, then_at, else_at}

-- 'its magnitude names the node': node 1, or one that was made
pub record EdgeOf (σ : Store) (e : ℤ) : Type 0 where
  pub some : 1 ≤ nat_abs e
  pub there : nat_abs e ≤ σ.count

-- is it one? '4 a root is 0 or beyond the store's count'
abbrev pub is_root : Store → ℤ → Bool
is_root σ e = leb 1 (nat_abs e) && leb (nat_abs e) σ.count

-- what the slots of nodes say is never changed, and the level count 'stays as it is for the store's whole life'
pub record Grows (σ τ : Store) : Type 0 where
  pub levels : τ.levels ≡ σ.levels
  pub count : σ.count ≤ τ.count
  pub level : (n : ℕ) → 2 ≤ n → n ≤ σ.count → level_at τ n ≡ level_at σ n
  pub then : (n : ℕ) → 2 ≤ n → n ≤ σ.count → then_at τ n ≡ then_at σ n
  pub els : (n : ℕ) → 2 ≤ n → n ≤ σ.count → else_at τ n ≡ else_at σ n
