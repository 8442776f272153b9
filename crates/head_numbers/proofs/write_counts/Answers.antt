-- `write_counts` meets its contract: three lines.
use Rattle.heading.proofs.Writing.{writing_start, writing_more, writing-end}
use Rattle.heading.proofs.Parts.{count-parts}
use Rattle.head_numbers.proofs.write_counts.Goals as goal

pub returns : goal.returns
returns c =
    let w = writing_more (writing_start _ _ (count-parts c.args.nnodes c.args.nvars c.args.nsuppvars) c.requires) c.write_count-nvars_at.ensures in
    writing-end (writing_more (writing_more w c.write_count-nsuppvars_at.ensures) c.write_count.ensures)
