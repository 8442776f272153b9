-- `names_in` meets its contract: both lists are cleared, and so they are zeros when the names are read.
use lib.ListN.{length}
use Rattle.header_values.proofs.Padded.{cleared-zeros, cleared-pad}
use Rattle.header_values.proofs.names_in.Goals as goal

pub read_names-requires-clause-table : goal.read_names-requires-clause-table
read_names-requires-clause-table c =
    c.requires

pub read_names-requires-clause-names_value : goal.read_names-requires-clause-names_value
read_names-requires-clause-names_value c =
    cleared-zeros (length c.args.names.now) (c.fill.ensures.after (λ y h. h))

pub read_names-requires-clause-lens_value : goal.read_names-requires-clause-lens_value
read_names-requires-clause-lens_value c =
    cleared-zeros (length c.args.lens.now) (c.fill-2.ensures.after (λ y h. h))

pub returns : goal.returns
returns c =
    let r = c.read_names.ensures in
    record {
      answer = r.answer;
      names_left = cleared-pad (length c.args.names.now) (c.fill.ensures.after (λ y h. h)) _ r.names_left;
      lens_left = cleared-pad (length c.args.lens.now) (c.fill-2.ensures.after (λ y h. h)) _ r.lens_left;
    }
