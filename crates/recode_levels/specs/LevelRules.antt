-- The levels of `recode` in document 01's words.
use Rattle.std.specs.Prelude.{◌≡◌, ℕ, ◌<◌, List, length, get_or}
use Rattle.seats.specs.Ordered.{Ascends}
use Rattle.seats.specs.Outside.{Outside}
use Rattle.variable_names.specs.Rest.{RestPosition}

-- 'Its level list is the file's permids, ascending.'
pub record PermidsAscending (permids list : List ℕ) : Type 0 where
  -- 'ascending'
  pub ascends : Ascends list
  -- as many levels as permids
  pub as_many : length list ≡ length permids
  -- each permid is a level of the list
  pub each : (i : ℕ) → i < length permids → (j : ℕ) × ((j < length list) × (get_or list j 0 ≡ get_or permids i 0))
  -- and each level of the list is a permid
  pub only : (j : ℕ) → j < length list → (i : ℕ) × ((i < length permids) × (get_or permids i 0 ≡ get_or list j 0))

-- 'with `.nvars` levels; variables outside the support take the free levels, both ascending'
pub record LevelsByPermid (nvars : ℕ) (ids permids levels : List ℕ) : Type 0 where
  -- a level for each variable
  pub as_many : length levels ≡ nvars
  -- a support variable's is its permid
  pub support : (i : ℕ) → i < length ids → get_or levels (get_or ids i 0) 0 ≡ get_or permids i 0
  -- the k-th variable outside the support has the k-th level that is no permid
  pub rest : (v : ℕ) → v < nvars → Outside v ids → RestPosition nvars ids permids v (get_or levels v 0)
