-- The settings of a store's levels, as lists: what the theorems on answers speak of. Document 01, 'Store and meaning'.
use Rattle.std.specs.Prelude.{ℕ, ◌≤◌, ◌<◌, ◌≡◌, Bool, false, List, length, get_or}
use Rattle.store.specs.Store.{Store}
use Rattle.store.specs.Meaning.{Setting}

-- a yes or no for each level of a list, and no beyond it
abbrev pub chosen : List Bool → Setting
chosen s l = get_or s l false

-- a lent setting of the store: 'one byte 00 or 01 per level'
pub record IsSetting (σ : Store) (s : List ℕ) : Type 0 where
  pub long : length s ≡ σ.levels
  pub bytes : (l : ℕ) → l < length s → get_or s l 0 ≤ 1
