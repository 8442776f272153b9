-- The header as a whole. Document 01, 'The file's writer, header as a whole', its sentence in its order.
use Rattle.std.specs.Prelude.{◌≡◌, ℕ, zero, suc, ◌≤◌, List, [], ◌∷◌, ◌++◌, ◌||◌, length, ltb, eqb}
use Rattle.codes.specs.Limits.{Limits, var_limit, root_limit}
use Rattle.header_lines.specs.Sweep.{Span}
use Rattle.header_keys.specs.declared.Key.{Key}
use Rattle.header_keys.specs.declared.Key.TheVariants.{Ids, Permids, Auxids, Rootnames}
use Rattle.support.specs.Support.{ids_fit, permids_fit}
use Rattle.variable_names.specs.Names.{places}
use Rattle.file_roots.specs.Roots.{roots_fault}
use Rattle.header_values.specs.Values.{nnodes_in, nvars_in, nsuppvars_in, nroots_in, u32s_in, names_in, roots_in}
use Rattle.header_checks.specs.Names.{varnames_in, orderedvarnames_in, suppvarnames_in, varnames_agree, supp_by_varnames, supp_by_ordered}
use Rattle.codes.specs.Faults.{first_fault, unless, when}

-- '21 wrong entry count'
abbrev pub count_fault : ℕ → ℕ → ℕ
count_fault want n = unless (eqb n want) 21

-- '21 for nonempty ..'
abbrev pub given_fault : ℕ → ℕ → ℕ
given_fault want n = unless (eqb n 0 || eqb n want) 21

-- '19 for `.nvars`, then `.nnodes`; 20 `.nsuppvars` above `.nvars`'
unfoldable pub number_faults : Limits → ℕ → ℕ → ℕ → List ℕ
number_faults m nvars nnodes nsuppvars = when (ltb var_limit nvars) 19 ∷ when (ltb m.nodes nnodes) 19 ∷ when (ltb nvars nsuppvars) 20 ∷ []

-- '21 wrong entry count in `.ids`, `.permids`, nonempty `.auxids`; 22 `.ids` not strictly ascending, or last not below `.nvars`; 23 a
-- permid not below `.nvars`, or twice'
unfoldable pub support_faults : List ℕ → List Span → List ℕ
support_faults f t =
    count_fault (nsuppvars_in f t) (length (u32s_in f t Ids))
    ∷ count_fault (nsuppvars_in f t) (length (u32s_in f t Permids))
    ∷ given_fault (nsuppvars_in f t) (length (u32s_in f t Auxids))
    ∷ unless (ids_fit (nvars_in f t) (u32s_in f t Ids)) 22
    ∷ unless (permids_fit (nvars_in f t) (u32s_in f t Permids)) 23
    ∷ []

-- '21 for nonempty `.orderedvarnames`, `.suppvarnames`, `.varnames`'
unfoldable pub name_count_faults : List ℕ → List Span → List ℕ
name_count_faults f t =
    given_fault (nvars_in f t) (length (orderedvarnames_in f t))
    ∷ given_fault (nsuppvars_in f t) (length (suppvarnames_in f t))
    ∷ given_fault (nvars_in f t) (length (varnames_in f t))
    ∷ []

-- '24 for a support variable, `.varnames` and `.orderedvarnames`, or either and `.suppvarnames`, give unlike names'
unfoldable pub name_faults : List ℕ → List Span → List ℕ
name_faults f t =
    unless (varnames_agree f t) 24
    ∷ unless (supp_by_varnames f t) 24
    ∷ unless (supp_by_ordered f t) 24
    ∷ []

-- '21 for `.rootids`; per root 25 zero, 26 magnitude above `.nnodes`; 21 for nonempty `.rootnames`'
unfoldable pub root_faults : List ℕ → List Span → List ℕ
root_faults f t =
    count_fault (nroots_in f t) (length (roots_in f t))
    ∷ roots_fault (nnodes_in f t) (roots_in f t)
    ∷ given_fault (nroots_in f t) (length (names_in root_limit f t Rootnames))
    ∷ []

-- 'The file's writer, header as a whole, in this order'
unfoldable pub whole_fault : Limits → List ℕ → List Span → ℕ
whole_fault m f t =
    first_fault
    (number_faults m (nvars_in f t) (nnodes_in f t) (nsuppvars_in f t)
    ++ (support_faults f t ++ (name_count_faults f t ++ (name_faults f t ++ root_faults f t))))

-- the numbers of a table
abbrev pub numbers_fault : Limits → List ℕ → List Span → ℕ
numbers_fault m f t = first_fault (number_faults m (nvars_in f t) (nnodes_in f t) (nsuppvars_in f t))

-- they pass
abbrev pub NumbersPass : Limits → List ℕ → List Span → Type 0
NumbersPass m f t = numbers_fault m f t ≡ 0

-- the refusal of the header as a whole, after what was found before, 0 of nothing
abbrev pub whole_after : Limits → ℕ → List ℕ → List Span → ℕ
whole_after m zero f t = whole_fault m f t
whole_after m (suc n) f t = suc n

-- What checks lean on: these ids and permids were read,
pub record IdsListed (f : List ℕ) (t : List Span) (ids permids : List ℕ) : Type 0 where
  pub ids_are : ids ≡ u32s_in f t Ids
  pub permids_are : permids ≡ u32s_in f t Permids

-- and there are as many of each as support variables;
pub record IdsRead (f : List ℕ) (t : List Span) (ids permids : List ℕ) : Type 0 where
  pub listed : IdsListed f t ids permids
  pub ids_counted : length (u32s_in f t Ids) ≡ nsuppvars_in f t
  pub permids_counted : length (u32s_in f t Permids) ≡ nsuppvars_in f t

-- two lists hold the starts and the lengths of a list's names;
pub record NamesHeld (f : List ℕ) (t : List Span) (k : Key) (starts lens : List ℕ) : Type 0 where
  pub even : length lens ≡ length starts
  pub count : length starts ≡ length (names_in var_limit f t k)
  pub names_are : places starts lens ≡ names_in var_limit f t k

-- the names of each list were counted;
pub record NameCounts (f : List ℕ) (t : List Span) (ordered supp varnames : ℕ) : Type 0 where
  pub ordered_count : ordered ≡ length (orderedvarnames_in f t)
  pub supp_count : supp ≡ length (suppvarnames_in f t)
  pub varnames_count : varnames ≡ length (varnames_in f t)

-- two lists of names have room in four lent lists;
pub record LongNames (names lens names2 lens2 : List ℕ) : Type 0 where
  pub names_long : var_limit ≤ length names
  pub lens_long : var_limit ≤ length lens
  pub names2_long : var_limit ≤ length names2
  pub lens2_long : var_limit ≤ length lens2

-- the lent lists of variables are as long as the limit: none has '1 a lent part too short'
pub record VariableLists (ids permids order auxids names lens : List ℕ) : Type 0 where
  pub ids_long : var_limit ≤ length ids
  pub permids_long : var_limit ≤ length permids
  pub others_long : LongNames order auxids names lens

-- where nothing was found before, they are
abbrev pub LongAfter : ℕ → List ℕ → List ℕ → List ℕ → List ℕ → List ℕ → List ℕ → Type 0
LongAfter found ids permids order auxids names lens = found ≡ 0 → VariableLists ids permids order auxids names lens
