-- `found_before` meets its contract: where nothing is found, the input isn't too long.
use Rattle.header.proofs.Lengths.{length-may}
use Rattle.vectors_header.proofs.lists.found_before.Goals as goal

pub returns-in-0-clause-may_read : goal.returns-in-0-clause-may_read
returns-in-0-clause-may_read c = length-may c.args.found c.args.f.now c.length_fault.ensures
