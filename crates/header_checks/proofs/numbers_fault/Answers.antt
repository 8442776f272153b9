use Rattle.header_checks.proofs.Checked.{numbers-are}
use Rattle.header_checks.proofs.numbers_fault.Goals as goal

pub returns : goal.returns
returns c =
    numbers-are _ _ _ c.number_in-nvars.ensures c.number_in-nnodes.ensures c.number_in-nsuppvars.ensures c.number_fault.ensures
