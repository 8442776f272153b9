-- The variable order of an export: entry v is the level of variable v.
use Rattle.std.specs.Prelude.{ℕ, Bool, true, false, ◌&&◌, List, eqb, length}
use Rattle.support.specs.Support.{permids_fit}
use Rattle.seats.specs.Seats.{Seats}

-- '6 the variable order isn't a permutation of the levels': one entry per level, each below the level count, none twice
unfoldable pub is_order : ℕ → List ℕ → Bool
is_order levels order = eqb (length order) levels && permids_fit levels order

-- where there is an order, a table of each level's variable, counted from 1
abbrev pub SeatsIf : Bool → List ℕ → List ℕ → Type 0
SeatsIf true order vars = Seats order vars
SeatsIf false order vars = Unit
