-- The header of an export, read back. Demand 2: an exported file, text or binary, reads back.
use Rattle.std.specs.Prelude.{ℕ, ◌-◌, ◌^◌, ◌≤◌, ◌<◌, ◌≡◌, true, false, ◌⊎◌, List, [], map, length, get_or, pos, nat_abs}
use Rattle.codes.specs.Limits.{Limits, var_limit, root_limit}
use Rattle.codes.specs.declared.DDDMPVersion.TheVariants.{V3_0}
use Rattle.read_text.specs.Text.{Place, place}
use Rattle.read_lines.specs.Each.{Each}
use Rattle.seats.specs.Seats.{seat_of}
use Rattle.support.specs.Support.{ids_fit}
use Rattle.variable_order.specs.Order.{is_order}
use Rattle.export_names.specs.Names.{name_at, fit_name}
use Rattle.header.specs.Header.{Header, header, answer_of, HeaderLoaded, lists_by}
use Rattle.heading.specs.Heading.{Heading, ids_from, permids_of, head_lines, head_text}
use Rattle.reading_header.specs.Joined.{trimmed}

-- no name, or as many as there are variables or roots
abbrev pub AllOrNone : List (List ℕ) → ℕ → Type 0
AllOrNone names n = (length names ≡ 0) ⊎ (length names ≡ n)

-- What a header of an export holds to: what the export checks, and what its numbering gives. Whether its nodes are few enough for a load
-- is asked apart: here their number need only be one that a root can have.
pub record Fit (h : Heading) : Type 0 where
  pub order : is_order (length h.order) h.order ≡ true
  pub few_variables : length h.order ≤ var_limit
  pub support : ids_fit (length h.order) h.support ≡ true
  pub few_nodes : h.nnodes < 2 ^ 63
  pub dd : fit_name true h.dd ≡ true
  pub names_counted : AllOrNone h.names (length h.order)
  pub names : Each (λ name. fit_name false name ≡ true) h.names
  pub few_roots : length h.rootids ≤ root_limit
  pub root_some : (i : ℕ) → i < length h.rootids → 1 ≤ nat_abs (get_or h.rootids i (pos 0))
  pub root_low : (i : ℕ) → i < length h.rootids → nat_abs (get_or h.rootids i (pos 0)) ≤ h.nnodes
  pub rootnames_counted : AllOrNone h.rootnames (length h.rootids)
  pub rootnames : Each (λ name. fit_name false name ≡ true) h.rootnames

-- what is read: the numbers, and the position after the header
abbrev pub header_for : Heading → Place → Header
header_for h dd = record {
  ascii = h.ascii;
  varinfo = 4;
  dd = dd;
  nnodes = h.nnodes;
  nvars = length h.order;
  nsuppvars = length h.support;
  nroots = length h.rootids;
  next = length (head_text h);
  lines = length (head_lines h);
}

-- what a load of the file's header leaves
abbrev pub loaded_from : Limits → List ℕ → HeaderLoaded
loaded_from m f = lists_by f (answer_of m f)

-- the support variable at a level
abbrev pub variable_of_level : List ℕ → ℕ → ℕ
variable_of_level order l = seat_of l order - 1

-- The header of a file that starts with an export's: it is accepted, and all that it says comes back. Of the names of variables, version 3.0
-- has all; version 2.0 has those of the support, since the order of the variables outside it stands in no line.
pub record HeaderBack (m : Limits) (h : Heading) (f : List ℕ) : Type 0 where
  pub dd : Place
  pub answer : answer_of m f ≡ header (header_for h dd)
  pub diagram : name_at f dd ≡ trimmed h.dd
  pub ids : (loaded_from m f).ids ≡ ids_from h.support 0 h.order
  pub permids : (loaded_from m f).permids ≡ permids_of h.support h.order
  pub order : (loaded_from m f).order ≡ map (variable_of_level h.order) h.support
  pub auxids : (loaded_from m f).auxids ≡ []
  pub roots : (loaded_from m f).roots ≡ h.rootids
  pub rootnames : map (name_at f) (loaded_from m f).rootnames ≡ h.rootnames
  -- names of the support variables; no name where none was written
  pub supp_names_said : (v : ℕ) → 1 ≤ seat_of v (ids_from h.support 0 h.order)
      → name_at f (get_or (loaded_from m f).names v (place 0 0)) ≡ get_or h.names v []
  -- in version 3.0 the names of all
  pub all_names_said : h.version ≡ V3_0 → map (name_at f) (loaded_from m f).names ≡ h.names
