-- `write_diagram` meets its contract: the key, the name and the line's end, where the name isn't empty.
use native.Mathlib.Omega.{arith}
use Prim.Native.Nat.{◌≤◌}
use lib.ListN.{length}
use Rattle.read_text.specs.Text.{place}
use Rattle.export_names.specs.Names.{name_at}
use Rattle.export_names.proofs.NameReading.{length-name}
use Rattle.heading.proofs.Writing.{writing_start, writing_more, writing-end}
use Rattle.heading.proofs.Parts.{diagram-parts}
use Rattle.export_header.proofs.write_diagram.Goals as goal

pub returns : goal.returns
returns c =
    let some : 1 ≤ length (name_at c.args.bytes.now (place c.args.start c.args.len)) =
    omega (arith, length-name c.args.bytes.now c.args.start c.args.len c.requires.inside, c.if-len-eq0.false) in
    let w = writing_more (writing_start _ _ (diagram-parts _ some) c.requires.room) c.put_bytes-name_at.ensures in
    writing-end (writing_more (writing_more w c.put_place-end.ensures) c.put_byte.ensures)
