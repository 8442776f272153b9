-- The header as a whole, as rules: a proposition for each phrase of document 01, 'The file's writer, header as a whole', in its order.
use Rattle.std.specs.Prelude.{◌≡◌, ◌⊎◌, ℕ, ◌≤◌, ◌<◌, List, length, get_or}
use Rattle.codes.specs.Limits.{Limits, var_limit, root_limit}
use Rattle.read_text.specs.Text.{Place}
use Rattle.header_lines.specs.Sweep.{Span}
use Rattle.header_keys.specs.declared.Key.TheVariants.{Ids, Permids, Auxids, Rootnames}
use Rattle.support.specs.Support.{IdsAllowed, PermidsAllowed}
use Rattle.file_roots.specs.Roots.{RootsAllowed}
use Rattle.variable_names.specs.Names.{empty_name, LikeNames}
use Rattle.header_values.specs.Values.{nnodes_in, nvars_in, nsuppvars_in, nroots_in, u32s_in, names_in, roots_in}
use Rattle.header_checks.specs.Names.{varnames_in, orderedvarnames_in, suppvarnames_in}

-- the name of the i-th support variable: `.varnames` has it at the variable's id,
abbrev pub name_by_varnames : List ℕ → List Span → ℕ → Place
name_by_varnames f t i = get_or (varnames_in f t) (get_or (u32s_in f t Ids) i 0) empty_name

-- `.orderedvarnames` at its permid,
abbrev pub name_by_ordered : List ℕ → List Span → ℕ → Place
name_by_ordered f t i = get_or (orderedvarnames_in f t) (get_or (u32s_in f t Permids) i 0) empty_name

-- and `.suppvarnames` at i itself
abbrev pub name_by_supp : List ℕ → List Span → ℕ → Place
name_by_supp f t i = get_or (suppvarnames_in f t) i empty_name

pub record WholeRules (m : Limits) (f : List ℕ) (t : List Span) : Type 0 where
  -- '19 for `.nvars`': over its limit, '`.nvars` 4,096'
  pub few_vars : nvars_in f t ≤ var_limit
  -- 'then `.nnodes`': over its limit, '`.nnodes` [the limit]'
  pub few_nodes : nnodes_in f t ≤ m.nodes
  -- '20 `.nsuppvars` above `.nvars`'
  pub few_support : nsuppvars_in f t ≤ nvars_in f t
  -- '21 wrong entry count in `.ids`'
  pub ids_counted : length (u32s_in f t Ids) ≡ nsuppvars_in f t
  -- '`.permids`'
  pub permids_counted : length (u32s_in f t Permids) ≡ nsuppvars_in f t
  -- 'nonempty `.auxids`'
  pub auxids_counted : (length (u32s_in f t Auxids) ≡ 0) ⊎ (length (u32s_in f t Auxids) ≡ nsuppvars_in f t)
  -- '22 `.ids` not strictly ascending, or last not below `.nvars`'
  pub ids : IdsAllowed (nvars_in f t) (u32s_in f t Ids)
  -- '23 a permid not below `.nvars`, or twice'
  pub permids : PermidsAllowed (nvars_in f t) (u32s_in f t Permids)
  -- '21 for nonempty `.orderedvarnames`'
  pub ordered_counted : (length (orderedvarnames_in f t) ≡ 0) ⊎ (length (orderedvarnames_in f t) ≡ nvars_in f t)
  -- '`.suppvarnames`'
  pub supp_counted : (length (suppvarnames_in f t) ≡ 0) ⊎ (length (suppvarnames_in f t) ≡ nsuppvars_in f t)
  -- '`.varnames`'
  pub varnames_counted : (length (varnames_in f t) ≡ 0) ⊎ (length (varnames_in f t) ≡ nvars_in f t)
  -- '24 for a support variable, `.varnames` and `.orderedvarnames` .. give unlike names', where both are given
  pub varnames_ordered : 1 ≤ length (varnames_in f t) → 1 ≤ length (orderedvarnames_in f t)
      → (i : ℕ) → i < nsuppvars_in f t → LikeNames f (name_by_varnames f t i) (name_by_ordered f t i)
  -- 'or either and `.suppvarnames`': `.varnames` and `.suppvarnames`
  pub varnames_supp : 1 ≤ length (varnames_in f t) → 1 ≤ length (suppvarnames_in f t)
      → (i : ℕ) → i < nsuppvars_in f t → LikeNames f (name_by_varnames f t i) (name_by_supp f t i)
  -- `.orderedvarnames` and `.suppvarnames`
  pub ordered_supp : 1 ≤ length (orderedvarnames_in f t) → 1 ≤ length (suppvarnames_in f t)
      → (i : ℕ) → i < nsuppvars_in f t → LikeNames f (name_by_ordered f t i) (name_by_supp f t i)
  -- '21 for `.rootids`'
  pub roots_counted : length (roots_in f t) ≡ nroots_in f t
  -- 'per root 25 zero, 26 magnitude above `.nnodes`'
  pub roots : RootsAllowed (nnodes_in f t) (roots_in f t)
  -- '21 for nonempty `.rootnames`'
  pub rootnames_counted : (length (names_in root_limit f t Rootnames) ≡ 0) ⊎ (length (names_in root_limit f t Rootnames) ≡ nroots_in f t)
