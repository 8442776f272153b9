-- `is_minus` meets its contract: the numbers below 0 are those with a minus.
use Rattle.std.proofs.Common.{w32, arith}
use Rattle.edges.proofs.Signed.{minus-test}
use Rattle.edges.proofs.is_minus.Goals as goal

pub returns : goal.returns
returns c = grind (arith, c.is_negative.ensures, minus-test w32 c.args.e c.ranges.e)
