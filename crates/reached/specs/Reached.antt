-- The nodes that an export writes. Document 01, 'Export'.
use Rattle.std.specs.Prelude.{ℕ, ◌≤◌, ◌<◌, List, [], length, get_or, ℤ, pos, nat_abs}
use Rattle.store.specs.Store.{Store, store, then_at, else_at}

-- A store without its chains, which no export looks at.
abbrev pub bare : Store → Store
bare σ = store σ.levels σ.count σ.level σ.then σ.els [] []

-- the nodes that the roots lead to
pub data Reached (σ : Store) (roots : List ℤ) : ℕ → Type 0 where
  root : (i : ℕ) → i < length roots → Reached σ roots (nat_abs (get_or roots i (pos 0)))
  then : {n : ℕ} → 2 ≤ n → Reached σ roots n → Reached σ roots (nat_abs (then_at σ n))
  els : {n : ℕ} → 2 ≤ n → Reached σ roots n → Reached σ roots (nat_abs (else_at σ n))
