-- The header of an export: what the Rust's `export_common` writes up to `.nodes`, where it returns Ok. Document 01, 'Export'.
use Rattle.std.specs.Prelude.{ℕ, zero, suc, ◌+◌, ◌-◌, Bool, cond, List, [], ◌∷◌, ◌++◌, map, eqb, length, get_or, ℤ}
use Rattle.codes.specs.Texts.{bytes}
use Rattle.codes.specs.declared.DDDMPVersion.{DDDMPVersion}
use Rattle.codes.specs.declared.DDDMPVersion.TheVariants.{V2_0, V3_0}
use Rattle.seats.specs.Seats.{seat_of}
use Rattle.header_faults.specs.Judge.{version20, version30, mode_a, mode_b}
use Rattle.header_keys.specs.declared.Key.TheVariants.{Ver, Mode, Varinfo, Dd, Nnodes, Nvars, Nsuppvars, Nroots, Nodes, Varnames, Suppvarnames, Orderedvarnames, Ids, Permids, Rootids, Rootnames}
use Rattle.writers.specs.Decimal.{decimal, edge_text}
use Rattle.reached.specs.Meet.{is_in}
use Rattle.heading.specs.Lines.{HeaderLine, line, lines_text}

-- What a header says. Names are lists of bytes.
pub record Heading : Type 0 where
  pub version : DDDMPVersion
  pub ascii : Bool
  -- the diagram's name; none where it is empty
  pub dd : List ℕ
  pub nnodes : ℕ
  -- the levels that have a line, ascending
  pub support : List ℕ
  -- entry v is the level of variable v
  pub order : List ℕ
  -- 'Names are lent for all variables or none, likewise for roots'
  pub names : List (List ℕ)
  -- the roots, as numbers of lines with their signs
  pub rootids : List ℤ
  pub rootnames : List (List ℕ)

-- the support variables, ascending: those whose level has a line; the first level of the list is that of variable v
unfoldable pub ids_from : List ℕ → ℕ → List ℕ → List ℕ
ids_from support v [] = []
ids_from support v (l ∷ order) = cond (is_in l support) (v ∷ ids_from support (v + 1) order) (ids_from support (v + 1) order)

-- their levels, in the order of the variables
unfoldable pub permids_of : List ℕ → List ℕ → List ℕ
permids_of support [] = []
permids_of support (l ∷ order) = cond (is_in l support) (l ∷ permids_of support order) (permids_of support order)

-- the variables of the levels l, l + 1, .., k of them
unfoldable pub variables_from : ℕ → ℕ → List ℕ → List ℕ
variables_from zero l order = []
variables_from (suc k) l order = (seat_of l order - 1) ∷ variables_from k (l + 1) order

-- the names of variables
unfoldable pub chosen_names : List ℕ → List (List ℕ) → List (List ℕ)
chosen_names vs names = map (λ v. get_or names v []) vs

abbrev pub version_text : DDDMPVersion → List ℕ
version_text V2_0 = version20
version_text V3_0 = version30

abbrev pub mode_text : Bool → List ℕ
mode_text ascii = cond ascii mode_a mode_b

-- a line that is left out where it has no words
abbrev pub unless_empty : {A : Type 0} → List A → HeaderLine → List HeaderLine
unless_empty [] l = []
unless_empty (a ∷ rest) l = l ∷ []

-- version 3.0 has all names in the order of the variables
abbrev pub varname_lines : DDDMPVersion → List (List ℕ) → List HeaderLine
varname_lines V2_0 names = []
varname_lines V3_0 names = line Varnames names ∷ []

-- 'with no variables the name lines are written empty'
unfoldable pub named_lines : DDDMPVersion → List ℕ → List ℕ → List (List ℕ) → List HeaderLine
named_lines version support order names =
    cond (eqb (length names) (length order))
    (varname_lines version names
    ++ (line Suppvarnames (chosen_names (ids_from support 0 order) names)
    ∷ line Orderedvarnames (chosen_names (variables_from (length order) 0 order) names)
    ∷ []))
    []

-- the version, the mode, no extra words (4), and the diagram's name
unfoldable pub intro_lines : DDDMPVersion → Bool → List ℕ → List HeaderLine
intro_lines version ascii dd =
    line Ver (version_text version ∷ []) ∷ line Mode (mode_text ascii ∷ []) ∷ line Varinfo ((bytes "4") ∷ []) ∷ unless_empty dd (line Dd (dd ∷ []))

unfoldable pub count_lines : ℕ → ℕ → ℕ → List HeaderLine
count_lines nnodes nvars nsuppvars =
    line Nnodes (decimal nnodes ∷ []) ∷ line Nvars (decimal nvars ∷ []) ∷ line Nsuppvars (decimal nsuppvars ∷ []) ∷ []

unfoldable pub id_lines : List ℕ → List ℕ → List HeaderLine
id_lines support order = line Ids (map decimal (ids_from support 0 order)) ∷ line Permids (map decimal (permids_of support order)) ∷ []

-- 'with no roots `.rootnames` is left out'
unfoldable pub root_lines : List ℤ → List (List ℕ) → List HeaderLine
root_lines rootids rootnames =
    line Nroots (decimal (length rootids) ∷ []) ∷ line Rootids (map edge_text rootids) ∷ unless_empty rootnames (line Rootnames rootnames)

unfoldable pub head_lines : Heading → List HeaderLine
head_lines h =
    intro_lines h.version h.ascii h.dd
    ++ (count_lines h.nnodes (length h.order) (length h.support)
    ++ (named_lines h.version h.support h.order h.names
    ++ (id_lines h.support h.order
    ++ (root_lines h.rootids h.rootnames
    ++ (line Nodes [] ∷ [])))))

unfoldable pub head_text : Heading → List ℕ
head_text h = lines_text (head_lines h)
