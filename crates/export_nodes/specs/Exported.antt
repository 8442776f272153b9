-- What an export starts from.
use Rattle.std.specs.Prelude.{ℕ, ◌<◌, List, length, get_or, ℤ, pos}
use Rattle.store.specs.Store.{Store}
use Rattle.codes.specs.Limits.{Limits}
use Rattle.store.specs.Rules.{Rules}
use Rattle.store.specs.Growth.{EdgeOf}

-- a store that keeps the rules, and roots that are its edges
pub record Exported (m : Limits) (σ : Store) (roots : List ℤ) : Type 0 where
  pub rules : Rules m σ
  pub roots_there : (i : ℕ) → i < length roots → EdgeOf σ (get_or roots i (pos 0))
