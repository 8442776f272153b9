-- The table of no values, which is left after a refusal: what it gives is empty.
use mathlib.Core.Path.{◌≡◌, refl}
use mathlib.Core.List.{List}
use Prim.Native.Nat.{ℕ}
use native.Mathlib.Omega.{arith}
use lib.ListN.{replicate}
use Rattle.codes.specs.Machine.{run}
use Rattle.read_numbers.specs.Number.{single}
use Rattle.read_lines.specs.Words.{words_from, words}
use Rattle.read_lists.specs.Lists.{judge, u32_list}
use Rattle.read_edges.specs.Edges.{edge_list}
use Rattle.read_text.specs.Text.{name_list}
use Rattle.header_lines.specs.Sweep.{Span, no_span, keys}
use Rattle.support.specs.Support.{order_from, support_order}
use Rattle.variable_names.specs.Names.{variable_names}
use Rattle.header_values.specs.Values.{u32s_in, names_in, roots_in, number_in}
use Rattle.header_checks.specs.Names.{variable_names_in}
use Rattle.header.specs.Header.{HeaderAnswer, nothing, lists_in}
use Rattle.header_lists.specs.Settled.{Settled, ListsRoom}

-- the table of no values
abbrev pub no_values : List Span
no_values = replicate keys no_span

-- it gives no lists
pub no-lists : (f : List ℕ) (a : HeaderAnswer) → lists_in f no_values a ≡ nothing a
unfolding number_in single u32s_in u32_list judge words words_from names_in name_list roots_in edge_list run variable_names_in variable_names support_order order_from
no-lists f a = refl

-- what the last phase leans on
pub none-settled : (f : List ℕ) → Settled f no_values
unfolding number_in single u32s_in u32_list judge words words_from
none-settled f = record { few = omega arith; below = λ i. omega arith; ids_counted = refl; permids_counted = refl }

-- all lists have room
pub none-room : (f from sizes lens : List ℕ) → ListsRoom f no_values from sizes lens
unfolding number_in single names_in name_list judge words words_from
none-room f from sizes lens = record {
  from_seats = omega arith;
  sizes_seats = omega arith;
  lens_seats = omega arith;
  ordered_room = record { from_room = omega arith; sizes_room = omega arith };
  supp_room = record { from_room = omega arith; sizes_room = omega arith };
}
