-- The definitions compute to what documents 01 and 02 say.
use mathlib.Core.Path.{refl}
use Rattle.codes.specs.Machine.{run}
use Rattle.codes.specs.Bytes.{is_blank, is_digit}
use Rattle.read_lines.specs.Words.{words_from, words}
use Rattle.read_numbers.specs.Number.{digit, number}
use Rattle.read_lists.specs.Lists.{judge}
use Rattle.read_edges.specs.Edges.{entry_bytes, edge_list}
use Rattle.read_edges.specs.Examples.{AllLists, edge_rows}

pub rows-hold : AllLists edge_rows
unfolding run is_blank is_digit words_from words digit number judge entry_bytes edge_list
rows-hold = (refl, (refl, (refl, (refl, (refl, (refl, (refl, (refl, (refl, (refl, (refl, (refl, (refl, (refl, (refl, tt)))))))))))))))
