-- `write_roots` meets its contract: the number of roots, the roots and their names.
use mathlib.Core.List.{map}
use lib.ListN.{length, length-map}
use Rattle.export_names.specs.Names.{names_at}
use Rattle.export_nodes.specs.Tables.{line_number_of}
use Rattle.heading.specs.Lines.{lines_text}
use Rattle.heading.specs.Heading.{root_lines}
use Rattle.heading.proofs.Writing.{Writing, writing_start, writing-room, writing_more, writing-end}
use Rattle.heading.proofs.Parts.{root_parts, root-parts}
use Rattle.heading.proofs.Places.{list_inside}
use Rattle.export_header.proofs.write_roots.Goals.{Start}
use Rattle.export_header.proofs.write_roots.Goals as goal

-- At first all parts are left to write.
begun : (c : Start)
    → Writing c.args.out.now c.args.at
    (lines_text (root_lines (map (line_number_of c.args.numbers.now) c.args.roots.now) (names_at c.args.bytes.now c.args.starts.now c.args.lens.now)))
    c.args.out.now c.args.at
    (root_parts (length c.args.roots.now) (map (line_number_of c.args.numbers.now) c.args.roots.now)
    (names_at c.args.bytes.now c.args.starts.now c.args.lens.now))
begun c = writing_start _ _ (root-parts _ _ (length-map c.args.roots.now (line_number_of c.args.numbers.now))) c.requires.room

pub write_rootnames-requires : goal.write_rootnames-requires
write_rootnames-requires c =
    let w = writing_more (begun (goal.at.write_rootnames-requires c).Start) c.write_count-ids_key.ensures in
    let v = writing_more (writing_more w c.put_bytes-ids_at.ensures) c.put_roots-ids_end.ensures in
    record {
      inside = list_inside (length c.args.roots.now) c.args.bytes.now c.args.starts.now c.args.lens.now c.requires.names_do_fit;
      room = writing-room (writing_more v c.put_byte-names_at.ensures);
    }

pub returns : goal.returns
returns c =
    let w = writing_more (begun (goal.at.returns c).Start) c.write_count-ids_key.ensures in
    let v = writing_more (writing_more w c.put_bytes-ids_at.ensures) c.put_roots-ids_end.ensures in
    writing-end (writing_more (writing_more v c.put_byte-names_at.ensures) c.write_rootnames.ensures)
