-- The definitions compute to what document 01 says.
use mathlib.Core.Path.{◌≡◌, refl}
use Rattle.codes.specs.Machine.{run}
use Rattle.codes.specs.Bytes.{is_blank, is_digit, is_line_end}
use Rattle.read_lines.specs.Line.{is_of, seek, trim, feed_at, line_of, key_end, value_start, value_end, field_of}
use Rattle.read_numbers.specs.Number.{digit, number, single}
use Rattle.read_lists.specs.Lists.{judge, u32_list}
use Rattle.read_lines.specs.Words.{words_from, words}
use Rattle.read_edges.specs.Edges.{entry_bytes, edge_list}
use Rattle.read_text.specs.Text.{utf8_next, is_utf8, name_list, text_at}
use Rattle.read_text.specs.Alike.{alike}
use Rattle.header_keys.specs.Keys.{lookup, key_of}
use Rattle.header_faults.specs.Judge.{version_fault, mode_fault, varinfo_fault, text_fault, single_fault, u32_list_fault, root_list_fault, name_list_fault, fault_of}
use Rattle.header_lines.specs.Sweep.{lines_from, lines_of, end_from, end_of, all_of, sound, last_from, last_of, lasts, step_at}
use Rattle.seats.specs.Seats.{seat_of}
use Rattle.seats.specs.Ordered.{ascending, distinct}
use Rattle.support.specs.Support.{last_below, ids_fit, all_below, permids_fit, order_from, support_order}
use Rattle.variable_names.specs.Names.{places, are_same_bytes, same_name, same_names, chosen_places, free_from, ordered_from, ordered_seats, supp_from, supp_seats, variable_names}
use Rattle.file_roots.specs.Roots.{roots_fault, edge_of}
use Rattle.header_values.specs.Values.{spans, number_in, ascii_in, varinfo_in, dd_in, u32s_in, names_in, roots_in}
use Rattle.header_checks.specs.Names.{up_from, agree, variable_names_in}
use Rattle.codes.specs.Faults.{first_fault}
use Rattle.header_checks.specs.Whole.{number_faults, support_faults, name_count_faults, name_faults, root_faults, whole_fault}
use Rattle.header.specs.Header.{table_of, read_of, length_fault, load_header}
use Rattle.header.specs.Examples.{loaded_head, example_head, example_loaded, starred_head, starred_loaded, AllHeaders, head_refusals}

pub example-loads : loaded_head example_head ≡ example_loaded
unfolding run is_blank is_digit is_line_end is_of seek trim feed_at line_of key_end value_start value_end field_of digit number single judge u32_list words_from words entry_bytes edge_list utf8_next is_utf8 name_list text_at alike lookup key_of version_fault mode_fault varinfo_fault text_fault single_fault u32_list_fault root_list_fault name_list_fault fault_of lines_from lines_of end_from end_of all_of sound last_from last_of lasts step_at seat_of ascending last_below ids_fit all_below distinct permids_fit order_from support_order places are_same_bytes same_name same_names chosen_places free_from ordered_from ordered_seats supp_from supp_seats variable_names roots_fault edge_of spans number_in ascii_in varinfo_in dd_in u32s_in names_in roots_in up_from agree variable_names_in first_fault number_faults support_faults name_count_faults name_faults root_faults whole_fault table_of read_of length_fault load_header
example-loads = refl

pub starred-loads : loaded_head starred_head ≡ starred_loaded
unfolding run is_blank is_digit is_line_end is_of seek trim feed_at line_of key_end value_start value_end field_of digit number single judge u32_list words_from words entry_bytes edge_list utf8_next is_utf8 name_list text_at alike lookup key_of version_fault mode_fault varinfo_fault text_fault single_fault u32_list_fault root_list_fault name_list_fault fault_of lines_from lines_of end_from end_of all_of sound last_from last_of lasts step_at seat_of ascending last_below ids_fit all_below distinct permids_fit order_from support_order places are_same_bytes same_name same_names chosen_places free_from ordered_from ordered_seats supp_from supp_seats variable_names roots_fault edge_of spans number_in ascii_in varinfo_in dd_in u32s_in names_in roots_in up_from agree variable_names_in first_fault number_faults support_faults name_count_faults name_faults root_faults whole_fault table_of read_of length_fault load_header
starred-loads = refl

-- every row of the table holds
pub refusals-hold : AllHeaders head_refusals
unfolding run is_blank is_digit is_line_end is_of seek trim feed_at line_of key_end value_start value_end field_of digit number single judge u32_list words_from words entry_bytes edge_list utf8_next is_utf8 name_list text_at alike lookup key_of version_fault mode_fault varinfo_fault text_fault single_fault u32_list_fault root_list_fault name_list_fault fault_of lines_from lines_of end_from end_of all_of sound last_from last_of lasts step_at seat_of ascending last_below ids_fit all_below distinct permids_fit order_from support_order places are_same_bytes same_name same_names chosen_places free_from ordered_from ordered_seats supp_from supp_seats variable_names roots_fault edge_of spans number_in ascii_in varinfo_in dd_in u32s_in names_in roots_in up_from agree variable_names_in first_fault number_faults support_faults name_count_faults name_faults root_faults whole_fault table_of read_of length_fault load_header
refusals-hold = (refl, (refl, (refl, (refl, (refl, (refl, (refl, (refl, (refl, (refl, (refl, (refl, (refl, (refl, (refl, (refl, (refl, (refl, (refl, (refl, (refl, (refl, (refl, (refl, (refl, (refl, (refl, (refl, (refl, (refl, tt))))))))))))))))))))))))))))))
