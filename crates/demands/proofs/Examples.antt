-- The definitions compute to what document 01 says.
use mathlib.Core.Path.{◌≡◌, refl, sym, ap, subst, ◌∙◌}
use mathlib.Core.Bool.{Bool, true, false, ◌&&◌}
use mathlib.Core.List.{[], ◌∷◌}
use mathlib.Core.Option.{none, some}
use Prim.Native.Nat.{ℕ, ◌≤◌}
use native.Mathlib.Omega.{arith}
use lib.ListN.{replicate}
use lib.IntN.{pos, negsuc}
use Rattle.codes.specs.Lent.{laid}
use Rattle.codes.specs.Limits.{limits, var_limit}
use Rattle.codes.specs.Machine.{run}
use Rattle.codes.specs.Bytes.{is_blank, is_digit, is_line_end, is_whitespace}
use Rattle.edges.specs.Edge.{minus, turn, eq_z}
use Rattle.read_lines.specs.Line.{is_of, seek, trim, feed_at, line_of, key_end, value_start, value_end, field_of}
use Rattle.read_numbers.specs.Number.{digit, number, single, first}
use Rattle.read_lists.specs.Lists.{judge, u32_list}
use Rattle.read_lines.specs.Words.{words_from, words}
use Rattle.read_edges.specs.Edges.{entry_bytes, edge_list, children}
use Rattle.read_text.specs.Text.{utf8_next, is_utf8, name_list, text_at}
use Rattle.read_text.specs.Alike.{alike}
use Rattle.header_keys.specs.Keys.{lookup, key_of}
use Rattle.header_faults.specs.Judge.{version_fault, mode_fault, varinfo_fault, text_fault, single_fault, u32_list_fault, root_list_fault, name_list_fault, fault_of}
use Rattle.header_lines.specs.Sweep.{lines_from, lines_of, end_from, end_of, all_of, last_from, last_of, lasts}
use Rattle.seats.specs.Seats.{seat_of}
use Rattle.seats.specs.Ordered.{ascending, distinct}
use Rattle.support.specs.Support.{last_below, ids_fit, all_below, permids_fit, order_from, support_order}
use Rattle.variable_names.specs.Names.{places, are_same_bytes, same_name, same_names, chosen_places, free_from, ordered_from, ordered_seats, supp_from, supp_seats, variable_names}
use Rattle.file_roots.specs.Roots.{roots_fault}
use Rattle.header_values.specs.Values.{spans, number_in, ascii_in, varinfo_in, dd_in, u32s_in, names_in, roots_in}
use Rattle.header_checks.specs.Names.{up_from, agree, variable_names_in}
use Rattle.codes.specs.Faults.{unless, first_fault}
use Rattle.header_checks.specs.Whole.{number_faults, support_faults, name_count_faults, name_faults, root_faults, whole_fault}
use Rattle.store.specs.Make.{find_up_to, find, added, insert, make}
use Rattle.store.specs.Store.{Store}
use Rattle.store.specs.Settings as settings
use Rattle.store.specs.Meaning.{Setting}
use Rattle.store.specs.Rules.{Rules}
use Rattle.store.specs.Keeps.{keeps, says-no, is-keeps, rules-keeps}
use Rattle.store.specs.Empty.{empty}
use Rattle.store.proofs.Empty.{empty-keeps}
use Rattle.header.specs.Header as head
use Rattle.header.specs.Header.{table_of, read_of, at_least}
use Rattle.header.specs.Examples.{example_loaded}
use Rattle.node_lines.specs.Line.{terminal, inner, deeper, child_fault}
use Rattle.node_lines.specs.Decode.{decode_from}
use Rattle.node_lines.specs.Says.{says_by, says}
use Rattle.line_words.specs.Words.{word_from, numbered, after_extra, variable_word}
use Rattle.import_ascii.specs.Text.{text_line, text_line_at}
use Rattle.imported.specs.Build.{edge_for, add_line, build_on, build}
use Rattle.imported.specs.Import.{line_by, lines_in, lines_answer, blank_all, ends_well, import_of}
use Rattle.level_list.specs.List.{list_fits}
use Rattle.calls.specs.Load.{Load, refused_at, lent_fault, input_fault, before_header, scratch_fault, list_fault, before_nodes, header_of, setup_of, nodes_of, with_header, load_of}
use Rattle.calls.specs.Roots.{roots_of, file_says}
use Rattle.demands.specs.Examples.{bare_load, bare_header, example_load, example_header}
use Rattle.calls.proofs.HeaderStands.{sound-read, answer-sound, answer-roots}
use Rattle.calls.proofs.Passes.{Passes, load-refused, passes-load}
use Rattle.calls.proofs.RootsAnswer.{roots-answer}

-- the header of a load, by whether the store keeps the rules
abbrev pub header_by : Load → Bool → head.HeaderLoaded
header_by c kept = head.load_header limits (first_fault (lent_fault c.lent ∷ unless kept 3 ∷ input_fault limits c.file ∷ [])) c.file

pub header-by : (c : Load) (σ : Store) {b : Bool} → keeps limits σ ≡ b → header_of limits c σ ≡ header_by c b
unfolding header_of before_header
header-by c σ q = ap (header_by c) q

-- an empty store breaks the rules without a slot, and keeps them with one
breaks : (levels : ℕ) → keeps limits (empty levels 0) ≡ false
breaks levels = sym (is-keeps limits (empty levels 0) false (says-no (λ R. omega (arith, ((empty-keeps levels 0).0 R).0))))

pub kept : (levels slots : ℕ) → levels ≤ var_limit → 1 ≤ slots → keeps limits (empty levels slots) ≡ true
kept levels slots h k = rules-keeps limits (empty levels slots) ((empty-keeps levels slots).1 (k, h))

-- without a slot a file is refused with 3
pub bare-breaks : load_of limits bare_load (empty 0 0) ≡ refused_at bare_load (empty 0 0) 3 0
unfolding load_of head.load_header head.lists_fault first_fault at_least
bare-breaks =
    load-refused limits bare_load (empty 0 0) 3 0
    (ap (λ r. (with_header limits bare_load (empty 0 0) r.answer).answer) (header-by bare_load (empty 0 0) (breaks 0)))

-- with one it is accepted
bare-header : (header_by bare_load true).answer ≡ head.header bare_header
unfolding run is_blank is_line_end is_of seek trim feed_at line_of key_end field_of single judge u32_list words_from words edge_list is_utf8 name_list text_at alike lookup key_of lines_from lines_of end_from end_of all_of last_from last_of lasts ascending last_below ids_fit all_below distinct permids_fit roots_fault number_in ascii_in varinfo_in dd_in u32s_in names_in roots_in agree first_fault number_faults support_faults name_count_faults name_faults root_faults whole_fault table_of read_of head.length_fault at_least head.lists_fault head.load_header
bare-header = refl

bare-passes : Passes limits bare_load (empty 0 1) bare_header
unfolding is_blank is_line_end is_whitespace alike ascending last_below ids_fit decode_from build_on build lines_in lines_answer blank_all ends_well import_of list_fits before_nodes scratch_fault list_fault first_fault
bare-passes = record {
  header_read = ap (λ r. r.answer) (header-by bare_load (empty 0 1) (kept 0 1 (omega arith) (omega arith))) ∙ bare-header;
  unrefused = refl;
  at = 7;
  nodes_read = refl;
}

pub bare-loads : (load_of limits bare_load (empty 0 1)).answer ≡ head.header bare_header
bare-loads = ap (λ r. r.answer) (passes-load limits bare_load (empty 0 1) bare_header bare-passes)

-- the header of document 01's example
example-header : header_by example_load true ≡ example_loaded
unfolding run is_blank is_digit is_line_end is_of seek trim feed_at line_of key_end value_start value_end field_of digit number single judge u32_list words_from words entry_bytes edge_list utf8_next is_utf8 name_list text_at alike lookup key_of version_fault mode_fault varinfo_fault text_fault single_fault u32_list_fault root_list_fault name_list_fault fault_of lines_from lines_of end_from end_of all_of last_from last_of lasts seat_of ascending last_below ids_fit all_below distinct permids_fit order_from support_order places are_same_bytes same_name same_names chosen_places free_from ordered_from ordered_seats supp_from supp_seats variable_names roots_fault spans number_in ascii_in varinfo_in dd_in u32s_in names_in roots_in up_from agree variable_names_in first_fault number_faults support_faults name_count_faults name_faults root_faults whole_fault table_of read_of head.length_fault at_least head.lists_fault head.load_header
example-header = refl

example-read : (σ : Store) → keeps limits σ ≡ true → header_of limits example_load σ ≡ example_loaded
example-read σ q = header-by example_load σ q ∙ example-header

-- it is accepted where there is a slot for each of its nodes
example-passes : Passes limits example_load (empty 2 3) example_header
unfolding run is_blank is_digit is_line_end is_whitespace is_of seek trim feed_at line_of digit number single first words_from words entry_bytes judge edge_list children alike ascending last_below ids_fit deeper child_fault decode_from word_from numbered after_extra variable_word text_line text_line_at minus eq_z empty find_up_to find added insert make edge_for add_line build_on build line_by lines_in lines_answer blank_all ends_well import_of list_fits before_nodes scratch_fault list_fault first_fault
example-passes = record {
  header_read = ap (λ r. r.answer) (example-read (empty 2 3) (kept 2 3 (omega arith) (omega arith)));
  unrefused = refl;
  at = 218;
  nodes_read = refl;
}

pub example-loads : (load_of limits example_load (empty 2 3)).answer ≡ head.header example_header
example-loads = ap (λ r. r.answer) (passes-load limits example_load (empty 2 3) example_header example-passes)

-- its roots, in an empty store, are 3 and -3
pub example-roots : (load_of limits example_load (empty 2 3)).roots ≡ pos 3 ∷ negsuc 2 ∷ replicate 1022 (pos 0)
unfolding run is_blank is_digit is_line_end is_whitespace is_of seek trim feed_at line_of digit number single first words_from words entry_bytes judge edge_list children alike ascending last_below ids_fit deeper child_fault decode_from word_from numbered after_extra variable_word text_line text_line_at minus eq_z empty find_up_to find added insert make edge_for add_line build_on build line_by lines_in lines_answer blank_all ends_well import_of list_fits before_nodes scratch_fault list_fault first_fault laid
example-roots =
    ap (λ r. r.roots) (passes-load limits example_load (empty 2 3) example_header example-passes)
    ∙ ap
    (λ r. (import_of limits (setup_of example_load 2 example_header) (empty 2 3) example_load.file 192 (laid r.roots (replicate 1024 (pos 0)))).roots)
    (example-read (empty 2 3) (kept 2 3 (omega arith) (omega arith)))

-- its lines, and the numbers of its roots
example-lines : (lines_in (setup_of example_load 2 example_header) example_load.file 192).lines
    ≡ terminal ∷ inner 1 (pos 1) (negsuc 0) ∷ inner 0 (pos 2) (negsuc 0) ∷ []
unfolding run is_blank is_digit is_line_end is_of seek trim feed_at line_of digit number single first words_from words entry_bytes judge edge_list children deeper child_fault decode_from word_from numbered after_extra variable_word text_line text_line_at minus eq_z line_by lines_in alike
example-lines = refl

pub example-ids : roots_of example_load.file ≡ pos 3 ∷ negsuc 2 ∷ []
example-ids =
    sym (answer-roots limits _ example_load.file example_header (ap (λ r. r.answer) example-header)) ∙ ap (λ r. r.roots) example-header

-- its header by itself
example-head : read_of limits example_load.file ≡ head.header example_header
example-head =
    sound-read limits example_load.file example_header
    (answer-sound limits _ example_load.file example_header (ap (λ r. r.answer) example-header)).1

-- its first root says yes just where both levels are yes, and no elsewhere
pub example-says : (a b : Bool) → file_says limits example_load.file example_load.list 2 0 (settings.chosen (a ∷ b ∷ [])) ≡ some (a && b)
unfolding says says_by turn
example-says a b = rw (example-head, example-lines, example-ids) (go a b)
  where
    go : (a b : Bool)
        → says (0 ∷ 1 ∷ []) (terminal ∷ inner 1 (pos 1) (negsuc 0) ∷ inner 0 (pos 2) (negsuc 0) ∷ []) (settings.chosen (a ∷ b ∷ [])) (pos 3)
        ≡ some (a && b)
    go true true = refl
    go true false = refl
    go false true = refl
    go false false = refl

-- it has no third root: of that nothing is said
pub example-silent : (s : Setting) → file_says limits example_load.file example_load.list 2 2 s ≡ none
example-silent s = rw example-ids

-- nor do lines that are not there, or a level that is not on the list, say anything
pub line-missing : (s : Setting) → says (0 ∷ 1 ∷ []) (terminal ∷ inner 1 (pos 1) (negsuc 0) ∷ []) s (pos 3) ≡ none
unfolding says says_by
line-missing s = refl

pub level-missing : (s : Setting) → says (0 ∷ []) (terminal ∷ inner 1 (pos 1) (negsuc 0) ∷ []) s (pos 2) ≡ none
unfolding says says_by
level-missing s = refl

-- with a slot less it is refused with 40
pub example-crowded : load_of limits example_load (empty 2 2) ≡ refused_at example_load (empty 2 2) 40 0
unfolding run is_blank is_digit is_line_end is_whitespace is_of seek trim feed_at line_of digit number single first words_from words entry_bytes judge edge_list children alike ascending last_below ids_fit deeper child_fault decode_from word_from numbered after_extra variable_word text_line text_line_at minus eq_z empty find_up_to find added insert make edge_for add_line build_on build line_by lines_in lines_answer blank_all ends_well import_of list_fits before_nodes scratch_fault list_fault first_fault load_of
example-crowded =
    load-refused limits example_load (empty 2 2) 40 0
    (ap (λ a. (with_header limits example_load (empty 2 2) a).answer)
    (ap (λ r. r.answer) (example-read (empty 2 2) (kept 2 2 (omega arith) (omega arith)))))

-- the store that the example leaves
abbrev filled : Store
filled = (nodes_of limits example_load (empty 2 3) example_header).after

after_filled : (load_of limits example_load (empty 2 3)).after ≡ filled
after_filled = ap (λ r. r.after) (passes-load limits example_load (empty 2 3) example_header example-passes)

filled-kept : keeps limits filled ≡ true
filled-kept =
    rules-keeps limits filled (subst (Rules limits) after_filled (roots-answer limits example_load (empty 2 3) example_header example-loads).rules)

again-passes : Passes limits example_load filled example_header
unfolding run is_blank is_digit is_line_end is_whitespace is_of seek trim feed_at line_of digit number single first words_from words entry_bytes judge edge_list children alike ascending last_below ids_fit deeper child_fault decode_from word_from numbered after_extra variable_word text_line text_line_at minus eq_z empty find_up_to find added insert make edge_for add_line build_on build line_by lines_in lines_answer blank_all ends_well import_of list_fits before_nodes scratch_fault list_fault first_fault
again-passes = record {
  header_read = ap (λ r. r.answer) (example-read filled filled-kept);
  unrefused = refl;
  at = 218;
  nodes_read = refl;
}

-- full as it is, it takes the example again
pub again-loads : (load_of limits example_load (load_of limits example_load (empty 2 3)).after).answer ≡ head.header example_header
again-loads =
    ap (λ τ. (load_of limits example_load τ).answer) after_filled
    ∙ ap (λ r. r.answer) (passes-load limits example_load filled example_header again-passes)
