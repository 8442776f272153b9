-- Every row of the table holds: the definitions compute to what document 01 says.
use mathlib.Core.Path.{◌≡◌, refl, ap, ◌∙◌}
use mathlib.Core.Bool.{true}
use mathlib.Core.List.{List, [], ◌∷◌}
use native.Mathlib.Omega.{arith}
use lib.ListN.{take}
use lib.IntN.{pos, negsuc}
use Rattle.codes.specs.Limits.{limits}
use Rattle.codes.specs.Codes.{code_of}
use Rattle.codes.specs.Machine.{run}
use Rattle.codes.specs.Bytes.{is_blank, is_digit, is_line_end, is_whitespace}
use Rattle.edges.specs.Edge.{minus, eq_z}
use Rattle.read_lines.specs.Line.{is_of, seek, trim, feed_at, line_of, key_end, value_start, value_end, field_of}
use Rattle.read_numbers.specs.Number.{digit, number, single, first}
use Rattle.read_lists.specs.Lists.{judge, u32_list}
use Rattle.read_lines.specs.Words.{words_from, words}
use Rattle.read_edges.specs.Edges.{entry_bytes, edge_list, children}
use Rattle.read_text.specs.Text.{is_utf8, name_list, text_at}
use Rattle.read_binary.specs.Binary.{meant, byte_at, groups_from, number_at}
use Rattle.writers.specs.Binary.{escaped, escaped_all, groups_by, groups, seven_bit}
use Rattle.read_text.specs.Alike.{alike}
use Rattle.header_keys.specs.Keys.{lookup, key_of}
use Rattle.header_faults.specs.Judge.{single_fault, u32_list_fault, fault_of}
use Rattle.header_lines.specs.Sweep.{lines_from, lines_of, end_from, end_of, all_of, last_from, last_of, lasts}
use Rattle.seats.specs.Seats.{seat_of}
use Rattle.seats.specs.Ordered.{ascending, distinct}
use Rattle.support.specs.Support.{last_below, ids_fit, all_below, permids_fit}
use Rattle.file_roots.specs.Roots.{roots_fault}
use Rattle.header_values.specs.Values.{spans, number_in, ascii_in, varinfo_in, dd_in, u32s_in, names_in, roots_in}
use Rattle.header_checks.specs.Names.{agree}
use Rattle.codes.specs.Faults.{first_fault}
use Rattle.header_checks.specs.Whole.{number_faults, support_faults, name_count_faults, name_faults, root_faults, whole_fault}
use Rattle.store.specs.Make.{find_up_to, find, added, insert, make}
use Rattle.store.specs.Empty.{empty}
use Rattle.store.specs.Firsts.{without, first_ones}
use Rattle.header.specs.Header as head
use Rattle.header.specs.Header.{table_of, read_of, at_least}
use Rattle.node_lines.specs.Line.{Line, terminal, inner, deeper, child_fault}
use Rattle.node_lines.specs.Decode.{decode_from}
use Rattle.line_words.specs.Words.{word_from, numbered, after_extra, variable_word}
use Rattle.import_ascii.specs.Text.{text_line, text_line_at}
use Rattle.line_numbers.specs.Numbers.{id_at, child_at, variable_at}
use Rattle.import_bin.specs.Bin.{bin_line_at}
use Rattle.imported.specs.Build.{edge_for, add_line, build_on, build}
use Rattle.imported.specs.Import.{line_by, lines_in, lines_answer, blank_all, ends_well, import_of}
use Rattle.level_list.specs.List.{list_fits}
use Rattle.reached.specs.Walk.{walk_by, walk, first_met}
use Rattle.numbering.specs.Numbering.{at_depth, deepest_first, numbering}
use Rattle.numbering.specs.Support.{support_from}
use Rattle.export_nodes.specs.Lines.{renumbered, line_of_node, lines_for}
use Rattle.node_writers.specs.Encoded.{child_code, variable_code, inner_bytes, bin_bytes, encode_from, node_bytes}
use Rattle.calls.specs.Load.{scratch_fault, list_fault, before_nodes, header_of, nodes_of, with_header, load_of}
use Rattle.demands.specs.Examples.{example_load, example_header}
use Rattle.demands.specs.Starred.{example_left, example_roots, ThoseNodes, three_variables, two_variables, three_header, AllRows, starred}
use Rattle.calls.proofs.Passes.{Passes, load-refused, passes-load}
use Rattle.calls.proofs.Accepted.{answered-passes}
use Rattle.demands.proofs.Examples.{header_by, header-by, kept, example-loads, example-roots}

-- the store that the example's load leaves is that of its nodes
left-by-nodes : example_left.after ≡ (nodes_of limits example_load (empty 2 3) example_header).after
left-by-nodes =
    let p = answered-passes limits example_load (empty 2 3) example_header example-loads in
    ap (λ r. r.after) (passes-load limits example_load (empty 2 3) example_header p)

-- and its first two entries of the lent list are the roots 3 and -3
two-roots : example_roots ≡ pos 3 ∷ negsuc 2 ∷ []
two-roots = ap (take 2) example-roots

-- 'those nodes'
abbrev lines : List Line
lines = terminal ∷ inner 1 (pos 1) (negsuc 0) ∷ inner 0 (pos 2) (negsuc 0) ∷ []

-- so numbered as an export numbers them, they have the lines of the text
lines-again : lines_for example_left.after (numbering example_left.after example_roots) ≡ lines
unfolding run is_blank is_digit is_line_end is_whitespace is_of seek trim feed_at line_of digit number single first words_from words entry_bytes judge edge_list children alike ascending last_below ids_fit deeper child_fault decode_from word_from numbered after_extra variable_word text_line text_line_at minus eq_z empty find_up_to find added insert make edge_for add_line build_on build line_by lines_in lines_answer blank_all ends_well import_of seat_of walk_by walk without first_ones first_met at_depth deepest_first numbering support_from renumbered line_of_node lines_for
lines-again =
    ap (λ rs. lines_for example_left.after (numbering example_left.after rs)) two-roots
    ∙ ap (λ σ. lines_for σ (numbering σ (pos 3 ∷ negsuc 2 ∷ []))) left-by-nodes

-- their lines as text and in binary, written and read
those-nodes : ThoseNodes lines (0x00 ∷ 0x00 ∷ 0x24 ∷ 0x02 ∷ 0x7c ∷ [])
unfolding run is_blank is_digit is_line_end is_of seek trim feed_at line_of digit number single first words_from words entry_bytes judge edge_list children deeper child_fault decode_from word_from numbered after_extra variable_word text_line text_line_at line_by lines_in minus escaped escaped_all groups_by groups seven_bit child_code variable_code inner_bytes bin_bytes encode_from node_bytes code_of byte_at meant groups_from number_at id_at child_at variable_at bin_line_at alike
those-nodes = record { accepted = example-loads; of_text = refl; of_store = lines-again; written = refl; read = refl }

-- the headers of the files with the ids 0 and 2
headers : ((header_by three_variables true).answer ≡ head.header three_header)
    × (((header_by three_variables true).ids ≡ 0 ∷ 2 ∷ []) × ((header_by two_variables true).answer ≡ head.refusal 22 0))
unfolding run is_blank is_digit is_line_end is_of seek trim feed_at line_of key_end value_start value_end field_of digit number single judge u32_list words_from words edge_list is_utf8 name_list text_at alike lookup key_of single_fault u32_list_fault fault_of lines_from lines_of end_from end_of all_of last_from last_of lasts seat_of ascending last_below ids_fit all_below distinct permids_fit roots_fault spans number_in ascii_in varinfo_in dd_in u32s_in names_in roots_in agree first_fault number_faults support_faults name_count_faults name_faults root_faults whole_fault table_of read_of head.length_fault at_least head.lists_fault head.load_header
headers = (refl, (refl, refl))

-- each in an empty store with one slot, which keeps the rules
three-kept : header_of limits three_variables (empty 3 1) ≡ header_by three_variables true
three-kept = header-by three_variables (empty 3 1) (kept 3 1 (omega arith) (omega arith))

two-kept : header_of limits two_variables (empty 2 1) ≡ header_by two_variables true
two-kept = header-by two_variables (empty 2 1) (kept 2 1 (omega arith) (omega arith))

-- three variables: the load passes all stages
three-passes : Passes limits three_variables (empty 3 1) three_header
unfolding is_blank is_line_end is_whitespace alike ascending last_below ids_fit decode_from build_on build lines_in lines_answer blank_all ends_well import_of list_fits before_nodes scratch_fault list_fault first_fault empty
three-passes = record {
  header_read = ap (λ r. r.answer) three-kept ∙ headers.0;
  unrefused = refl;
  at = 51;
  nodes_read = refl;
}

three-loads : ((load_of limits three_variables (empty 3 1)).answer ≡ head.header three_header)
    × ((load_of limits three_variables (empty 3 1)).ids ≡ 0 ∷ 2 ∷ [])
three-loads =
    let q = passes-load limits three_variables (empty 3 1) three_header three-passes in
    (ap (λ r. r.answer) q, ap (λ r. r.ids) q ∙ ap (λ r. r.ids) three-kept ∙ headers.1.0)

-- two variables: it is refused, and gives no ids
two-refused : (load_of limits two_variables (empty 2 1)).answer ≡ head.refusal 22 0
unfolding load_of
two-refused = ap (λ a. (with_header limits two_variables (empty 2 1) a).answer) (ap (λ r. r.answer) two-kept ∙ headers.1.1)

two-loads : ((load_of limits two_variables (empty 2 1)).answer ≡ head.refusal 22 0) × ((load_of limits two_variables (empty 2 1)).ids ≡ [])
two-loads = (two-refused, ap (λ r. r.ids) (load-refused limits two_variables (empty 2 1) 22 0 two-refused))

-- All starred cases of document 01.
pub starred-holds : AllRows starred
unfolding run is_blank is_digit digit number words_from words judge entry_bytes edge_list escaped escaped_all groups_by groups seven_bit meant byte_at groups_from number_at
starred-holds = (those-nodes, ((refl, refl), ((refl, refl), ((refl, refl), ((refl, refl), (refl, (refl, (refl, (refl, (refl, (three-loads, (two-loads, ((refl, refl), tt)))))))))))))
