-- `header_in` meets its contract.
use Rattle.header.proofs.Answers.{header_read}
use Rattle.header.proofs.header_in.Goals as goal

pub returns : goal.returns
returns c =
    header_read _ _ _ _
    c.ascii_in.ensures
    c.varinfo_in.result
    c.varinfo_in.ensures
    c.dd_in.result
    c.dd_in.ensures
    c.number_in.ensures
    c.number_in-2.ensures
    c.number_in-3.ensures
    c.number_in-4.ensures
