-- The names of variables, as the lists of a header give them. Document 01, 'The file's writer, header as a whole' (24), and 'Header'.
use Rattle.std.specs.Prelude.{ℕ, zero, suc, ◌+◌, List, [], ◌∷◌, Bool, ◌||◌, length, eqb}
use Rattle.codes.specs.Limits.{var_limit}
use Rattle.read_text.specs.Text.{Place}
use Rattle.header_lines.specs.Sweep.{Span}
use Rattle.header_keys.specs.declared.Key.TheVariants.{Varnames, Suppvarnames, Orderedvarnames, Ids, Permids}
use Rattle.variable_names.specs.Names.{same_names, chosen_places, variable_names}
use Rattle.header_values.specs.Values.{names_in, u32s_in, nvars_in, nsuppvars_in}

abbrev pub varnames_in : List ℕ → List Span → List Place
varnames_in f t = names_in var_limit f t Varnames

abbrev pub orderedvarnames_in : List ℕ → List Span → List Place
orderedvarnames_in f t = names_in var_limit f t Orderedvarnames

abbrev pub suppvarnames_in : List ℕ → List Span → List Place
suppvarnames_in f t = names_in var_limit f t Suppvarnames

-- i, i + 1, .., n of them
unfoldable pub up_from : ℕ → ℕ → List ℕ
up_from zero i = []
up_from (suc n) i = i ∷ up_from n (i + 1)

-- whether two lists of names agree about the support variables; one that isn't given says nothing
unfoldable pub agree : List ℕ → List Place → List ℕ → List Place → List ℕ → Bool
agree f names index names2 index2 =
    eqb (length names) 0 || (eqb (length names2) 0 || same_names f (chosen_places index names) (chosen_places index2 names2))

-- Where a list has the names of the support variables: `.varnames` at their ids, `.orderedvarnames` at their permids, `.suppvarnames` in
-- their order. '24 for a support variable, `.varnames` and `.orderedvarnames`, or either and `.suppvarnames`, give unlike names'.
abbrev pub varnames_agree : List ℕ → List Span → Bool
varnames_agree f t = agree f (varnames_in f t) (u32s_in f t Ids) (orderedvarnames_in f t) (u32s_in f t Permids)

abbrev pub supp_by_varnames : List ℕ → List Span → Bool
supp_by_varnames f t = agree f (varnames_in f t) (u32s_in f t Ids) (suppvarnames_in f t) (up_from (nsuppvars_in f t) 0)

abbrev pub supp_by_ordered : List ℕ → List Span → Bool
supp_by_ordered f t = agree f (orderedvarnames_in f t) (u32s_in f t Permids) (suppvarnames_in f t) (up_from (nsuppvars_in f t) 0)

-- the names of the variables
unfoldable pub variable_names_in : List ℕ → List Span → List Place
variable_names_in f t =
    variable_names (nvars_in f t) (u32s_in f t Ids) (u32s_in f t Permids) (varnames_in f t) (orderedvarnames_in f t) (suppvarnames_in f t)
