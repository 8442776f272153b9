-- `passed_on` meets its contract.
use Rattle.recoding.proofs.Passed.{passed-all, passed_none}
use Rattle.recoding.proofs.passed_on.Goals as goal

pub returns-then-all_there : goal.returns-then-all_there
returns-then-all_there c =
    passed-all _ c.all_there.ensures c.if-all_there.true

pub returns : goal.returns
returns c =
    passed_none _ c.all_there.ensures c.if-all_there.false
