-- What the lines of an export's header list: the support variables, their levels, and names.
use Rattle.std.specs.Prelude.{ℕ, ◌≤◌, ◌≡◌, Bool, true, false, cond, List, [], eqb, length}
use Rattle.codes.specs.declared.DDDMPVersion.{DDDMPVersion}
use Rattle.codes.specs.declared.DDDMPVersion.TheVariants.{V2_0, V3_0}
use Rattle.read_lines.specs.Each.{Each}
use Rattle.export_names.specs.Names.{fit_name}
use Rattle.heading.specs.Heading.{Heading, ids_from, permids_of, variables_from, chosen_names}

-- the support variables, and their levels
abbrev pub ids_of : Heading → List ℕ
ids_of h = ids_from h.support 0 h.order

abbrev pub levels_of : Heading → List ℕ
levels_of h = permids_of h.support h.order

-- all names, in version 3.0 alone; those of the support variables; and all in the order of the levels
abbrev pub all_names : DDDMPVersion → List (List ℕ) → List (List ℕ)
all_names V2_0 names = []
all_names V3_0 names = names

abbrev pub supp_names : Heading → List (List ℕ)
supp_names h = chosen_names (ids_of h) h.names

abbrev pub ordered_names : Heading → List (List ℕ)
ordered_names h = chosen_names (variables_from (length h.order) 0 h.order) h.names

-- The words of the three lines of names, which are written where there is a name for each variable.
abbrev pub named : Heading → Bool
named h = eqb (length h.names) (length h.order)

unfoldable pub varname_words : Heading → List (List ℕ)
varname_words h = cond (named h) (all_names h.version h.names) []

unfoldable pub suppvarname_words : Heading → List (List ℕ)
suppvarname_words h = cond (named h) (supp_names h) []

unfoldable pub orderedvarname_words : Heading → List (List ℕ)
orderedvarname_words h = cond (named h) (ordered_names h) []

-- names that are fit, and few
pub record FewNames (max : ℕ) (names : List (List ℕ)) : Type 0 where
  pub fit : Each (λ name. fit_name false name ≡ true) names
  pub few : length names ≤ max
