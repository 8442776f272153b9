-- The definitions compute to what document 01 says.
use mathlib.Core.Path.{◌≡◌}
use mathlib.Core.Bool.{true, false}
use borrow.Author.Rules.{rules}
use Rattle.codes.specs.Machine.{run}
use Rattle.codes.specs.Bytes.{is_blank, is_digit, is_line_end}
use Rattle.read_lines.specs.Line.{is_of, seek, trim, feed_at, line_of}
use Rattle.read_numbers.specs.Number.{digit, number, single, first}
use Rattle.read_lines.specs.Words.{words_from, words}
use Rattle.read_lists.specs.Lists.{judge}
use Rattle.read_edges.specs.Edges.{entry_bytes, edge_list, children}
use Rattle.read_text.specs.Alike.{alike}
use Rattle.node_lines.specs.Line.{deeper, child_fault}
use Rattle.node_lines.specs.Decode.{decode_from}
use Rattle.line_words.specs.Words.{word_from, numbered, after_extra, variable_word}
use Rattle.import_ascii.specs.Text.{text_line, text_line_at}
use Rattle.import_ascii.specs.Examples.{decoded_text, example_text_nodes, example_text_lines, own, own_lines, short, short_lines, AllLines, accepted, text_refusals, firsts, extras}

-- all of them, since the same definitions unfold in each
examples : (decoded_text 3 example_text_nodes ≡ example_text_lines) × (decoded_text 3 own ≡ own_lines) × (decoded_text 2 short ≡ short_lines)
    × AllLines false accepted × AllLines false text_refusals × AllLines false firsts × AllLines true extras
unfolding run is_blank is_digit is_line_end is_of seek trim feed_at line_of digit number single words_from words first entry_bytes judge edge_list
    children alike deeper child_fault decode_from word_from numbered after_extra variable_word text_line text_line_at
examples = search rules

-- document 01's example
pub example-decodes : decoded_text 3 example_text_nodes ≡ example_text_lines
example-decodes = examples.0

-- a line that is its own child
pub own-stops : decoded_text 3 own ≡ own_lines
own-stops = examples.1

-- a text that ends early
pub short-stops : decoded_text 2 short ≡ short_lines
short-stops = examples.2

-- lines that are read
pub accepted-hold : AllLines false accepted
accepted-hold = examples.3

-- a line for each refusal
pub refusals-hold : AllLines false text_refusals
refusals-hold = examples.4

-- the first refusal
pub firsts-hold : AllLines false firsts
firsts-hold = examples.5

-- lines with an extra word
pub extras-hold : AllLines true extras
extras-hold = examples.6
