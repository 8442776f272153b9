-- What writing the names of a header asks and promises.
use Rattle.std.specs.Prelude.{ℕ, ◌≤◌, ◌≡◌, true, List, length}
use Rattle.codes.specs.declared.DDDMPVersion.{DDDMPVersion}
use Rattle.codes.specs.Lent.{Part, old}
use Rattle.seats.specs.Seats.{Seats}
use Rattle.header_keys.specs.declared.Key.TheVariants.{Rootnames}
use Rattle.variable_order.specs.Order.{is_order}
use Rattle.export_names.specs.Names.{names_at, name_list_fits}
use Rattle.writers.specs.Words.{spaced}
use Rattle.writers.specs.Written.{FitsOut, Written}
use Rattle.heading.specs.Lines.{line, lines_text}
use Rattle.heading.specs.Heading.{ids_from, variables_from, chosen_names, unless_empty, named_lines}
use Rattle.heading.specs.Tables.{seated_levels, Seatable, Ordered, Inside}

-- the names of the support variables, in the order of the variables
abbrev supp_names : List (List ℕ) → List ℕ → List ℕ → List ℕ
supp_names names order seats = spaced (chosen_names (ids_from (seated_levels seats) 0 order) names)

-- the names of all variables, in the order of the levels
abbrev ordered_names : List (List ℕ) → List ℕ → List ℕ
ordered_names names order = spaced (chosen_names (variables_from (length order) 0 order) names)

-- 'with no roots `.rootnames` is left out'
abbrev rootnames : List (List ℕ) → List ℕ
rootnames names = lines_text (unless_empty names (line Rootnames names))

module _ (out : List ℕ) (at : ℕ) (bytes starts lens : List ℕ) where
  abbrev lent_names : List (List ℕ)
  lent_names = names_at bytes starts lens

  -- a name inside the lent bytes for each variable, a seat for each level, and room
  pub record SuppNamesAsks (order seats : List ℕ) : Type 0 where
    pub inside : Inside bytes starts lens
    pub named : length lens ≡ length order
    pub seatable : Seatable order seats
    pub room : FitsOut out at (supp_names lent_names order seats)

  -- a name inside the lent bytes for each variable, an order, each level's variable, and room
  pub record OrderedNamesAsks (order vars : List ℕ) : Type 0 where
    pub inside : Inside bytes starts lens
    pub named : length lens ≡ length order
    pub is_an_order : is_order (length order) order ≡ true
    pub vars_there : Seats order vars
    pub vars_long : length order ≤ length vars
    pub room : FitsOut out at (ordered_names lent_names order)

  -- 'Names are lent for all variables or none'; the tables of the levels, and room
  pub record NamesAsks (version : DDDMPVersion) (order vars seats : List ℕ) : Type 0 where
    pub names_do_fit : name_list_fits (length order) bytes starts lens ≡ true
    pub ordered : Ordered order vars seats
    pub room : FitsOut out at (lines_text (named_lines version (seated_levels seats) order lent_names))

  -- each name lies inside the lent bytes, and there is room for their line
  pub record RootnamesAsks : Type 0 where
    pub inside : Inside bytes starts lens
    pub room : FitsOut out at (rootnames lent_names)

module _ (out : Part (List ℕ)) (at : ℕ) (bytes starts lens : Part (List ℕ)) where
  abbrev old_names : List (List ℕ)
  old_names = names_at (old bytes) (old starts) (old lens)

  -- the words of `.suppvarnames`
  abbrev pub SuppNamesPromise : Part (List ℕ) → Part (List ℕ) → ℕ → Type 0
  SuppNamesPromise order seats r = Written out at (supp_names old_names (old order) (old seats)) r

  -- the words of `.orderedvarnames`
  abbrev pub OrderedNamesPromise : Part (List ℕ) → ℕ → Type 0
  OrderedNamesPromise order r = Written out at (ordered_names old_names (old order)) r

  -- 'with no variables the name lines are written empty'
  abbrev pub NameLinesPromise : DDDMPVersion → Part (List ℕ) → Part (List ℕ) → ℕ → Type 0
  NameLinesPromise version order seats r = Written out at (lines_text (named_lines version (seated_levels (old seats)) (old order) old_names)) r

  -- 'with no roots `.rootnames` is left out'
  abbrev pub RootnamesPromise : ℕ → Type 0
  RootnamesPromise r = Written out at (rootnames old_names) r
