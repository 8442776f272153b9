-- The definitions compute to what document 01 and the Rust write.
use mathlib.Core.Path.{◌≡◌, refl}
use Rattle.edges.specs.Edge.{minus}
use Rattle.seats.specs.Seats.{seat_of}
use Rattle.writers.specs.Decimal.{digits, decimal, edge_text}
use Rattle.writers.specs.Words.{spaced}
use Rattle.heading.specs.Lines.{lines_text}
use Rattle.heading.specs.Heading.{ids_from, permids_of, variables_from, chosen_names, named_lines, intro_lines, count_lines, id_lines, root_lines, head_lines, head_text}
use Rattle.heading.specs.Examples.{example_heading, example_head_text, other, other_text, bare_heading, bare_text}

pub example-text : head_text example_heading ≡ example_head_text
unfolding minus seat_of digits decimal edge_text spaced lines_text ids_from permids_of variables_from chosen_names named_lines intro_lines count_lines id_lines root_lines head_lines head_text
example-text = refl

pub other-text : head_text other ≡ other_text
unfolding minus seat_of digits decimal edge_text spaced lines_text ids_from permids_of variables_from chosen_names named_lines intro_lines count_lines id_lines root_lines head_lines head_text
other-text = refl

pub bare-text : head_text bare_heading ≡ bare_text
unfolding minus seat_of digits decimal edge_text spaced lines_text ids_from permids_of variables_from chosen_names named_lines intro_lines count_lines id_lines root_lines head_lines head_text
bare-text = refl
