-- The definitions compute to what document 01 says.
use mathlib.Core.Path.{◌≡◌, refl}
use mathlib.Core.Bool.{true, false}
use mathlib.Core.List.{[], ◌∷◌}
use Rattle.edges.specs.Edge.{minus}
use Rattle.seats.specs.Seats.{seat_of}
use Rattle.writers.specs.Decimal.{digits, decimal, edge_text}
use Rattle.writers.specs.Words.{spaced}
use Rattle.writers.specs.Binary.{escaped, escaped_all, groups_by, groups, seven_bit}
use Rattle.store.specs.Firsts.{without, first_ones}
use Rattle.reached.specs.Walk.{walk_by, walk, first_met}
use Rattle.numbering.specs.Numbering.{at_depth, deepest_first, numbering}
use Rattle.numbering.specs.Support.{support_from}
use Rattle.export_nodes.specs.Lines.{renumbered, line_of_node, lines_for}
use Rattle.node_writers.specs.Encoded.{text_bytes, child_code, variable_code, inner_bytes, bin_bytes, encode_from, node_bytes}
use Rattle.export_nodes.specs.Examples.{example_store, example_nodes, example_lines, example_text, example_binary, mixed, mixed_roots}

-- document 01's example: its lines, as text and in binary
pub example-lines : lines_for example_store example_nodes ≡ example_lines
unfolding seat_of walk_by walk without first_ones first_met at_depth deepest_first numbering support_from minus renumbered line_of_node lines_for
example-lines = refl

pub example-text : node_bytes true example_lines ≡ example_text
unfolding minus digits decimal edge_text spaced text_bytes encode_from node_bytes
example-text = refl

pub example-binary : node_bytes false example_lines ≡ example_binary
unfolding minus escaped escaped_all groups_by groups seven_bit child_code variable_code inner_bytes bin_bytes encode_from node_bytes
example-binary = refl

-- deepest level first, and inside a level the order of the walk's first meeting
pub mixed-numbered : numbering mixed mixed_roots ≡ 1 ∷ 2 ∷ 5 ∷ 6 ∷ 3 ∷ []
unfolding seat_of walk_by walk without first_ones first_met at_depth deepest_first numbering support_from
mixed-numbered = refl
