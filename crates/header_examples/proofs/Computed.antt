-- The definitions compute to what document 01 says.
use mathlib.Core.Path.{◌≡◌, refl}
use Rattle.codes.specs.Machine.{run}
use Rattle.codes.specs.Bytes.{is_blank, is_digit, is_line_end}
use Rattle.read_lines.specs.Line.{is_of, seek, trim, feed_at, line_of, key_end, value_start, value_end, field_of}
use Rattle.read_numbers.specs.Number.{digit, number, single}
use Rattle.read_lists.specs.Lists.{judge, u32_list}
use Rattle.read_lines.specs.Words.{words_from, words}
use Rattle.read_edges.specs.Edges.{entry_bytes, edge_list}
use Rattle.read_text.specs.Text.{utf8_next, is_utf8, name_list, text_at}
use Rattle.read_text.specs.Alike.{alike}
use Rattle.header_keys.specs.Keys.{lookup, key_of}
use Rattle.header_faults.specs.Judge.{version_fault, mode_fault, varinfo_fault, text_fault, single_fault, u32_list_fault, root_list_fault, name_list_fault, fault_of}
use Rattle.header_lines.specs.Sweep.{lines_from, lines_of, end_from, end_of, all_of, sound, last_from, last_of, lasts, step_at}
use Rattle.seats.specs.Seats.{seat_of}
use Rattle.seats.specs.Ordered.{ascending, distinct}
use Rattle.support.specs.Support.{last_below, ids_fit, all_below, permids_fit, order_from, support_order}
use Rattle.variable_names.specs.Names.{places, are_same_bytes, same_name, same_names, chosen_places, free_from, ordered_from, ordered_seats, supp_from, supp_seats, variable_names}
use Rattle.file_roots.specs.Roots.{roots_fault, edge_of}
use Rattle.header_values.specs.Values.{spans, number_in, ascii_in, varinfo_in, dd_in, u32s_in, names_in, roots_in}
use Rattle.header_checks.specs.Names.{up_from, agree, variable_names_in}
use Rattle.codes.specs.Faults.{first_fault}
use Rattle.header_checks.specs.Whole.{number_faults, support_faults, name_count_faults, name_faults, root_faults, whole_fault}
use Rattle.header.specs.Header.{table_of, read_of, length_fault, load_header}
use Rattle.header.specs.Examples.{loaded_head, AllHeaders}
use Rattle.header_examples.specs.Rows.{count_refusals, repeated_refusals, blank_refusals, line_order_refusals, whole_order_refusals, AllHeadsGiven, plain_heads, some_free, some_free_gives, some_unnamed, some_unnamed_gives, unlike_outside, unlike_outside_gives, all_lists, all_lists_gives}

-- A wrong entry count in any one of the lists gets 21, line 0.
pub counts-refused : AllHeaders count_refusals
unfolding run is_blank is_digit is_line_end is_of seek trim feed_at line_of key_end value_start value_end field_of digit number single judge u32_list words_from words entry_bytes edge_list utf8_next is_utf8 name_list text_at alike lookup key_of version_fault mode_fault varinfo_fault text_fault single_fault u32_list_fault root_list_fault name_list_fault fault_of lines_from lines_of end_from end_of all_of sound last_from last_of lasts step_at seat_of ascending last_below ids_fit all_below distinct permids_fit order_from support_order places are_same_bytes same_name same_names chosen_places free_from ordered_from ordered_seats supp_from supp_seats variable_names roots_fault edge_of spans number_in ascii_in varinfo_in dd_in u32s_in names_in roots_in up_from agree variable_names_in first_fault number_faults support_faults name_count_faults name_faults root_faults whole_fault table_of read_of length_fault load_header
counts-refused = (refl, (refl, (refl, (refl, (refl, (refl, (refl, (refl, tt))))))))

-- Each value of a repeated key is judged, and the last one counts.
pub repeated-refused : AllHeaders repeated_refusals
unfolding run is_blank is_digit is_line_end is_of seek trim feed_at line_of key_end value_start value_end field_of digit number single judge u32_list words_from words entry_bytes edge_list utf8_next is_utf8 name_list text_at alike lookup key_of version_fault mode_fault varinfo_fault text_fault single_fault u32_list_fault root_list_fault name_list_fault fault_of lines_from lines_of end_from end_of all_of sound last_from last_of lasts step_at seat_of ascending last_below ids_fit all_below distinct permids_fit order_from support_order places are_same_bytes same_name same_names chosen_places free_from ordered_from ordered_seats supp_from supp_seats variable_names roots_fault edge_of spans number_in ascii_in varinfo_in dd_in u32s_in names_in roots_in up_from agree variable_names_in first_fault number_faults support_faults name_count_faults name_faults root_faults whole_fault table_of read_of length_fault load_header
repeated-refused = (refl, (refl, (refl, (refl, tt))))

-- A CR inside a line and a tab before a key are refused.
pub blanks-refused : AllHeaders blank_refusals
unfolding run is_blank is_digit is_line_end is_of seek trim feed_at line_of key_end value_start value_end field_of digit number single judge u32_list words_from words entry_bytes edge_list utf8_next is_utf8 name_list text_at alike lookup key_of version_fault mode_fault varinfo_fault text_fault single_fault u32_list_fault root_list_fault name_list_fault fault_of lines_from lines_of end_from end_of all_of sound last_from last_of lasts step_at seat_of ascending last_below ids_fit all_below distinct permids_fit order_from support_order places are_same_bytes same_name same_names chosen_places free_from ordered_from ordered_seats supp_from supp_seats variable_names roots_fault edge_of spans number_in ascii_in varinfo_in dd_in u32s_in names_in roots_in up_from agree variable_names_in first_fault number_faults support_faults name_count_faults name_faults root_faults whole_fault table_of read_of length_fault load_header
blanks-refused = (refl, (refl, (refl, tt)))

-- Of two faults on a line the left one decides, of two on two lines the upper one.
pub line-order-refused : AllHeaders line_order_refusals
unfolding run is_blank is_digit is_line_end is_of seek trim feed_at line_of key_end value_start value_end field_of digit number single judge u32_list words_from words entry_bytes edge_list utf8_next is_utf8 name_list text_at alike lookup key_of version_fault mode_fault varinfo_fault text_fault single_fault u32_list_fault root_list_fault name_list_fault fault_of lines_from lines_of end_from end_of all_of sound last_from last_of lasts step_at seat_of ascending last_below ids_fit all_below distinct permids_fit order_from support_order places are_same_bytes same_name same_names chosen_places free_from ordered_from ordered_seats supp_from supp_seats variable_names roots_fault edge_of spans number_in ascii_in varinfo_in dd_in u32s_in names_in roots_in up_from agree variable_names_in first_fault number_faults support_faults name_count_faults name_faults root_faults whole_fault table_of read_of length_fault load_header
line-order-refused = (refl, (refl, (refl, (refl, (refl, tt)))))

-- Of two faults of the header as a whole the one that document 01 names first decides.
pub whole-order-refused : AllHeaders whole_order_refusals
unfolding run is_blank is_digit is_line_end is_of seek trim feed_at line_of key_end value_start value_end field_of digit number single judge u32_list words_from words entry_bytes edge_list utf8_next is_utf8 name_list text_at alike lookup key_of version_fault mode_fault varinfo_fault text_fault single_fault u32_list_fault root_list_fault name_list_fault fault_of lines_from lines_of end_from end_of all_of sound last_from last_of lasts step_at seat_of ascending last_below ids_fit all_below distinct permids_fit order_from support_order places are_same_bytes same_name same_names chosen_places free_from ordered_from ordered_seats supp_from supp_seats variable_names roots_fault edge_of spans number_in ascii_in varinfo_in dd_in u32s_in names_in roots_in up_from agree variable_names_in first_fault number_faults support_faults name_count_faults name_faults root_faults whole_fault table_of read_of length_fault load_header
whole-order-refused = (refl, (refl, (refl, (refl, (refl, (refl, (refl, (refl, (refl, (refl, (refl, (refl, tt))))))))))))

-- The last value of a repeated key is given; trailing CR, and blanks around a value, are no part of it.
pub plain-given : AllHeadsGiven plain_heads
unfolding run is_blank is_digit is_line_end is_of seek trim feed_at line_of key_end value_start value_end field_of digit number single judge u32_list words_from words entry_bytes edge_list utf8_next is_utf8 name_list text_at alike lookup key_of version_fault mode_fault varinfo_fault text_fault single_fault u32_list_fault root_list_fault name_list_fault fault_of lines_from lines_of end_from end_of all_of sound last_from last_of lasts step_at seat_of ascending last_below ids_fit all_below distinct permids_fit order_from support_order places are_same_bytes same_name same_names chosen_places free_from ordered_from ordered_seats supp_from supp_seats variable_names roots_fault edge_of spans number_in ascii_in varinfo_in dd_in u32s_in names_in roots_in up_from agree variable_names_in first_fault number_faults support_faults name_count_faults name_faults root_faults whole_fault table_of read_of length_fault load_header
plain-given = (refl, (refl, (refl, (refl, (refl, (refl, tt))))))

-- Variables outside the support have the names that are left, in order.
pub free-named : loaded_head some_free ≡ some_free_gives
unfolding run is_blank is_digit is_line_end is_of seek trim feed_at line_of key_end value_start value_end field_of digit number single judge u32_list words_from words entry_bytes edge_list utf8_next is_utf8 name_list text_at alike lookup key_of version_fault mode_fault varinfo_fault text_fault single_fault u32_list_fault root_list_fault name_list_fault fault_of lines_from lines_of end_from end_of all_of sound last_from last_of lasts step_at seat_of ascending last_below ids_fit all_below distinct permids_fit order_from support_order places are_same_bytes same_name same_names chosen_places free_from ordered_from ordered_seats supp_from supp_seats variable_names roots_fault edge_of spans number_in ascii_in varinfo_in dd_in u32s_in names_in roots_in up_from agree variable_names_in first_fault number_faults support_faults name_count_faults name_faults root_faults whole_fault table_of read_of length_fault load_header
free-named = refl

-- With `.suppvarnames` alone, variables outside the support have empty names.
pub unnamed-elsewhere : loaded_head some_unnamed ≡ some_unnamed_gives
unfolding run is_blank is_digit is_line_end is_of seek trim feed_at line_of key_end value_start value_end field_of digit number single judge u32_list words_from words entry_bytes edge_list utf8_next is_utf8 name_list text_at alike lookup key_of version_fault mode_fault varinfo_fault text_fault single_fault u32_list_fault root_list_fault name_list_fault fault_of lines_from lines_of end_from end_of all_of sound last_from last_of lasts step_at seat_of ascending last_below ids_fit all_below distinct permids_fit order_from support_order places are_same_bytes same_name same_names chosen_places free_from ordered_from ordered_seats supp_from supp_seats variable_names roots_fault edge_of spans number_in ascii_in varinfo_in dd_in u32s_in names_in roots_in up_from agree variable_names_in first_fault number_faults support_faults name_count_faults name_faults root_faults whole_fault table_of read_of length_fault load_header
unnamed-elsewhere = refl

-- Unlike names of variables outside the support are no fault.
pub unlike-allowed : loaded_head unlike_outside ≡ unlike_outside_gives
unfolding run is_blank is_digit is_line_end is_of seek trim feed_at line_of key_end value_start value_end field_of digit number single judge u32_list words_from words entry_bytes edge_list utf8_next is_utf8 name_list text_at alike lookup key_of version_fault mode_fault varinfo_fault text_fault single_fault u32_list_fault root_list_fault name_list_fault fault_of lines_from lines_of end_from end_of all_of sound last_from last_of lasts step_at seat_of ascending last_below ids_fit all_below distinct permids_fit order_from support_order places are_same_bytes same_name same_names chosen_places free_from ordered_from ordered_seats supp_from supp_seats variable_names roots_fault edge_of spans number_in ascii_in varinfo_in dd_in u32s_in names_in roots_in up_from agree variable_names_in first_fault number_faults support_faults name_count_faults name_faults root_faults whole_fault table_of read_of length_fault load_header
unlike-allowed = refl

-- Lists with as many entries as they need are given as they stand.
pub lists-given : loaded_head all_lists ≡ all_lists_gives
unfolding run is_blank is_digit is_line_end is_of seek trim feed_at line_of key_end value_start value_end field_of digit number single judge u32_list words_from words entry_bytes edge_list utf8_next is_utf8 name_list text_at alike lookup key_of version_fault mode_fault varinfo_fault text_fault single_fault u32_list_fault root_list_fault name_list_fault fault_of lines_from lines_of end_from end_of all_of sound last_from last_of lasts step_at seat_of ascending last_below ids_fit all_below distinct permids_fit order_from support_order places are_same_bytes same_name same_names chosen_places free_from ordered_from ordered_seats supp_from supp_seats variable_names roots_fault edge_of spans number_in ascii_in varinfo_in dd_in u32s_in names_in roots_in up_from agree variable_names_in first_fault number_faults support_faults name_count_faults name_faults root_faults whole_fault table_of read_of length_fault load_header
lists-given = refl
