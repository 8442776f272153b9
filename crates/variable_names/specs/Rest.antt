-- The names of variables in document 01's words: 'support variables by permid and the rest in order', 'with empty names elsewhere'.
use Rattle.std.specs.Prelude.{◌≡◌, ℕ, ◌≤◌, ◌<◌, List, [], length, get_or}
use Rattle.read_text.specs.Text.{Place}
use Rattle.seats.specs.Outside.{Outside, outside_below}
use Rattle.variable_names.specs.Names.{empty_name}

-- 'the rest in order': where a variable v is the k-th outside the support, p is the k-th position that is no permid
pub record RestPosition (nvars : ℕ) (ids permids : List ℕ) (v p : ℕ) : Type 0 where
  -- one position for each variable
  pub below : p < nvars
  -- it is no permid
  pub free : Outside p permids
  -- as many such positions stand before it as variables outside the support before the variable
  pub in_order : outside_below p permids ≡ outside_below v ids

-- 'else `.orderedvarnames`, support variables by permid and the rest in order'
pub record NamesByPermid (nvars : ℕ) (ids permids : List ℕ) (ordered names : List Place) : Type 0 where
  -- a name for each variable
  pub as_many : length names ≡ nvars
  -- a support variable has the entry at its permid
  pub support : (i : ℕ) → i < length ids → get_or names (get_or ids i 0) empty_name ≡ get_or ordered (get_or permids i 0) empty_name
  -- the k-th variable outside the support has the k-th entry whose position is no permid
  pub rest : (v : ℕ) → v < nvars → Outside v ids
      → (p : ℕ) × (RestPosition nvars ids permids v p × (get_or names v empty_name ≡ get_or ordered p empty_name))

-- 'else `.suppvarnames` with empty names elsewhere'
pub record NamesOfSupport (nvars : ℕ) (ids : List ℕ) (supp names : List Place) : Type 0 where
  -- a name for each variable
  pub as_many : length names ≡ nvars
  -- a support variable has the entry at its position among the ids
  pub support : (i : ℕ) → i < length ids → get_or names (get_or ids i 0) empty_name ≡ get_or supp i empty_name
  -- 'with empty names elsewhere'
  pub elsewhere : (v : ℕ) → v < nvars → Outside v ids → get_or names v empty_name ≡ empty_name

-- 'Names: `.varnames` first; else `.orderedvarnames`, support variables by permid and the rest in order; else `.suppvarnames` with empty names
-- elsewhere': what the three lists say the names are. A list that isn't given is empty.
pub data NamesSaid (nvars : ℕ) (ids permids : List ℕ) : List Place → List Place → List Place → List Place → Type 0 where
  by_varnames : {ordered supp names : List Place} → 1 ≤ length names → NamesSaid nvars ids permids names ordered supp names
  by_ordered : {ordered supp names : List Place} → 1 ≤ length ordered → NamesByPermid nvars ids permids ordered names
      → NamesSaid nvars ids permids [] ordered supp names
  by_support : {supp names : List Place} → 1 ≤ length supp → NamesOfSupport nvars ids supp names → NamesSaid nvars ids permids [] [] supp names
  unnamed : NamesSaid nvars ids permids [] [] [] []
