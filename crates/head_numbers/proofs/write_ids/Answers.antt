-- `write_ids` meets its contract: two lines, each a key and its numbers.
use Rattle.heading.specs.Tables.{seated_levels}
use Rattle.heading.proofs.Writing.{writing_start, writing_more, writing-end}
use Rattle.heading.proofs.Parts.{id-parts}
use Rattle.heading.proofs.Variables.{ordered-seatable}
use Rattle.head_numbers.proofs.write_ids.Goals as goal

pub put_ids-permids_key-requires-clause-seatable : goal.put_ids-permids_key-requires-clause-seatable
put_ids-permids_key-requires-clause-seatable c = ordered-seatable c.requires.ordered

pub put_permids-end-requires-clause-seatable : goal.put_permids-end-requires-clause-seatable
put_permids-end-requires-clause-seatable c = ordered-seatable c.requires.ordered

pub returns : goal.returns
returns c =
    let w = writing_start _ _ (id-parts (seated_levels c.args.seats.now) c.args.order.now) c.requires.fits_out in
    let ids = writing_more (writing_more w c.put_bytes-ids_at.ensures) c.put_ids-permids_key.ensures in
    writing-end (writing_more (writing_more (writing_more ids c.put_bytes-permids_at.ensures) c.put_permids-end.ensures) c.put_byte.ensures)
