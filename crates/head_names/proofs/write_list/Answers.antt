-- `write_list` meets its contract: the key, the names and the line's end.
use Rattle.export_names.specs.Names.{names_at}
use Rattle.heading.proofs.Writing.{writing_start, writing_more, writing-end}
use Rattle.heading.proofs.Parts.{words-parts}
use Rattle.head_names.proofs.write_list.Goals as goal

pub returns : goal.returns
returns c =
    let w = writing_start _ _ (words-parts c.args.key.now (names_at c.args.bytes.now c.args.starts.now c.args.lens.now)) c.requires.fits_out in
    writing-end (writing_more (writing_more (writing_more w c.put_bytes-names_at.ensures) c.put_names-end.ensures) c.put_byte.ensures)
