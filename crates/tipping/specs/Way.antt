-- The way of an edge at a setting: the levels that it passes.
use Rattle.std.specs.Prelude.{ℕ, ◌≤◌, cond, ℤ, nat_abs}
use Rattle.store.specs.Store.{Store, level_at, then_at, else_at}
use Rattle.store.specs.Meaning.{Setting}

-- the edge that the way takes from a node, 'its then edge where its level is yes, else its else edge', and the other one
abbrev pub taken_at : Store → Setting → ℕ → ℤ
taken_at σ s n = cond (s (level_at σ n)) (then_at σ n) (else_at σ n)

abbrev pub other_at : Store → Setting → ℕ → ℤ
other_at σ s n = cond (s (level_at σ n)) (else_at σ n) (then_at σ n)

-- the way of a node passes its level, and then those of the node that it takes
pub data Passes (σ : Store) (s : Setting) : ℕ → ℕ → Type 0 where
  here : {n : ℕ} → 2 ≤ n → Passes σ s n (level_at σ n)
  on : {n l : ℕ} → 2 ≤ n → Passes σ s (nat_abs (taken_at σ s n)) l → Passes σ s n l
