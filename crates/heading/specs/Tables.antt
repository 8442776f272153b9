-- The header of an export by the tables that it fills and the parts that are lent, and what writing it leans on.
use Rattle.std.specs.Prelude.{ℕ, zero, suc, ◌+◌, ◌≤◌, ◌<◌, ◌≡◌, Bool, true, List, [], ◌∷◌, map, length, get_or, ℤ, pos, nat_abs}
use Rattle.codes.specs.Limits.{var_limit, root_limit}
use Rattle.codes.specs.declared.DDDMPVersion.{DDDMPVersion}
use Rattle.read_text.specs.Text.{Place}
use Rattle.seats.specs.Seats.{Seats}
use Rattle.variable_order.specs.Order.{is_order}
use Rattle.export_names.specs.Names.{name_at, names_at, fit_place, name_list_fits}
use Rattle.export_nodes.specs.Tables.{line_number_of, Numbered}
use Rattle.heading.specs.Heading.{Heading}

-- of the levels l, l + 1, .., those that have a seat in the support
unfoldable pub seated_from : ℕ → List ℕ → List ℕ
seated_from l [] = []
seated_from l (zero ∷ seats) = seated_from (l + 1) seats
seated_from l (suc s ∷ seats) = l ∷ seated_from (l + 1) seats

unfoldable pub seated_levels : List ℕ → List ℕ
seated_levels seats = seated_from 0 seats

-- the parts that names are lent in: bytes, starts and lengths of the variables' names, starts and lengths of the roots', and the place of the
-- diagram's
pub record Lent : Type 0 where
  pub bytes : List ℕ
  pub starts : List ℕ
  pub lens : List ℕ
  pub rootstarts : List ℕ
  pub rootlens : List ℕ
  pub dd : Place

abbrev pub lent : List ℕ → List ℕ → List ℕ → List ℕ → List ℕ → Place → Lent
lent bytes starts lens rootstarts rootlens dd = record {
  bytes = bytes;
  starts = starts;
  lens = lens;
  rootstarts = rootstarts;
  rootlens = rootlens;
  dd = dd;
}

abbrev pub names_of : Lent → List (List ℕ)
names_of p = names_at p.bytes p.starts p.lens

abbrev pub rootnames_of : Lent → List (List ℕ)
rootnames_of p = names_at p.bytes p.rootstarts p.rootlens

-- the header, by the seats of the levels in the support and the number of each node's line
abbrev pub heading_by : DDDMPVersion → Bool → Lent → ℕ → List ℕ → List ℕ → List ℤ → List ℕ → Heading
heading_by version ascii p nnodes order seats roots numbers = record {
  version = version;
  ascii = ascii;
  dd = name_at p.bytes p.dd;
  nnodes = nnodes;
  support = seated_levels seats;
  order = order;
  names = names_of p;
  rootids = map (line_number_of numbers) roots;
  rootnames = rootnames_of p;
}

-- each level of an order has a place in a table
abbrev pub Seatable : List ℕ → List ℕ → Type 0
Seatable order table = (v : ℕ) → v < length order → get_or order v 0 < length table

-- what the lines of variables lean on: an order, a table of each level's variable, and one of each level's seat
pub record Ordered (order vars seats : List ℕ) : Type 0 where
  pub is_an_order : is_order (length order) order ≡ true
  pub few : length order ≤ var_limit
  pub vars_long : length order ≤ length vars
  pub vars_there : Seats order vars
  pub seats_long : length order ≤ length seats

-- what the lines of roots lean on
pub record Rooted (roots : List ℤ) (numbers : List ℕ) : Type 0 where
  pub few : length roots ≤ root_limit
  pub numbered : (i : ℕ) → i < length roots → Numbered numbers (nat_abs (get_or roots i (pos 0)))

-- each name of a list lies inside the lent bytes, and has a start and a length
pub record Inside (bytes starts lens : List ℕ) : Type 0 where
  pub even : length lens ≡ length starts
  pub many : length (names_at bytes starts lens) ≡ length lens
  pub within : (i : ℕ) → i < length lens → get_or starts i 0 + get_or lens i 0 ≤ length bytes

-- what the names lean on
pub record NamesFit (p : Lent) (variables roots : ℕ) : Type 0 where
  pub names : name_list_fits variables p.bytes p.starts p.lens ≡ true
  pub rootnames : name_list_fits roots p.bytes p.rootstarts p.rootlens ≡ true
  pub diagram : fit_place true p.bytes p.dd ≡ true
