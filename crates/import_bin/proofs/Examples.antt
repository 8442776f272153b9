-- The definitions compute to what document 01 says.
use mathlib.Core.Path.{◌≡◌}
use borrow.Author.Rules.{rules}
use Rattle.codes.specs.Codes.{code_of}
use Rattle.read_binary.specs.Binary.{meant, byte_at, groups_from, number_at}
use Rattle.node_lines.specs.Line.{deeper}
use Rattle.node_lines.specs.Decode.{decode_from}
use Rattle.line_numbers.specs.Numbers.{id_at, child_at, variable_at}
use Rattle.import_bin.specs.Bin.{bin_line_at}
use Rattle.import_bin.specs.Examples.{decoded_binary, example_bytes, example_binary_lines, ReadSo, readings, RefusedSo, binary_refusals}

-- all of them, since the same definitions unfold in each
examples : (decoded_binary 2 3 example_bytes ≡ example_binary_lines) × ReadSo readings × RefusedSo binary_refusals
unfolding code_of byte_at meant groups_from number_at deeper decode_from id_at child_at variable_at bin_line_at
examples = search rules

-- document 01's example
pub example-decodes : decoded_binary 2 3 example_bytes ≡ example_binary_lines
example-decodes = examples.0

-- every file of the table is read so
pub readings-hold : ReadSo readings
readings-hold = examples.1

-- every file of the table is refused so
pub refusals-hold : RefusedSo binary_refusals
refusals-hold = examples.2
