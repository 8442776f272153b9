-- `u32s_in` meets its contract: the list is cleared, and so it is zeros when the numbers are read.
use lib.ListN.{length}
use Rattle.header_values.proofs.Padded.{cleared-zeros, cleared-pad}
use Rattle.header_values.proofs.u32s_in.Goals as goal

pub read_u32s-requires-clause-table : goal.read_u32s-requires-clause-table
read_u32s-requires-clause-table c =
    c.requires

pub read_u32s-requires-clause-dst_value : goal.read_u32s-requires-clause-dst_value
read_u32s-requires-clause-dst_value c =
    cleared-zeros (length c.args.dst.now) (c.fill.ensures.after (λ y h. h))

pub returns : goal.returns
returns c =
    let r = c.read_u32s.ensures in
    record { answer = r.answer; list = cleared-pad (length c.args.dst.now) (c.fill.ensures.after (λ y h. h)) _ r.list }
