-- `write_count` meets its contract: the key, the number and the line's end.
use Rattle.writers.specs.Decimal.{decimal}
use Rattle.heading.proofs.Writing.{writing_start, writing_more, writing-end}
use Rattle.heading.proofs.Parts.{word-parts}
use Rattle.head_numbers.proofs.write_count.Goals as goal

pub returns : goal.returns
returns c =
    let w = writing_more (writing_start _ _ (word-parts c.args.key.now (decimal c.args.n)) c.requires) c.put_bytes-n_at.ensures in
    writing-end (writing_more (writing_more w c.put_spaced-end.ensures) c.put_byte.ensures)
