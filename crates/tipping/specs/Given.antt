-- What is said of a level that the call gives, and of where there is none, with no word of how it is found.
use Rattle.std.specs.Prelude.{ℕ, ◌-◌, List, get_or, set, ℤ}
use Rattle.codes.specs.Limits.{Limits}
use Rattle.store.specs.Store.{Store}
use Rattle.store.specs.Rules.{Rules}
use Rattle.store.specs.Growth.{EdgeOf}
use Rattle.store.specs.Settings.{IsSetting}
use Rattle.store.specs.Meaning.{setting_of}
use Rattle.tipping.specs.Tip.{tips}
use Rattle.tipping.specs.Lowest.{IsLowest, NoneBelow}

-- No rule is broken,
pub record Asked (m : Limits) (σ : Store) (e : ℤ) (s : List ℕ) : Type 0 where
  pub rules : Rules m σ
  pub edge : EdgeOf σ e
  pub setting : IsSetting σ s

-- and of the levels whose flip alone turns the answer over it is the lowest;
pub record Given (m : Limits) (σ : Store) (e : ℤ) (s : List ℕ) (l : ℕ) : Type 0 where
  pub asked : Asked m σ e s
  pub lowest : IsLowest (tips σ e (setting_of s)) σ.levels l

-- or there is none.
pub record NoFlip (m : Limits) (σ : Store) (e : ℤ) (s : List ℕ) : Type 0 where
  pub asked : Asked m σ e s
  pub none : NoneBelow (tips σ e (setting_of s)) σ.levels

-- the lent setting with one byte flipped
abbrev pub flipped_byte : List ℕ → ℕ → List ℕ
flipped_byte s l = set s l (1 - get_or s l 0)
