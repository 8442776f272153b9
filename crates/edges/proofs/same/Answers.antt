-- `same` meets its contract: two numbers of a width are equal where their bits are.
use Rattle.std.proofs.Common.{w32}
use Rattle.edges.proofs.Signed.{same_bits}
use Rattle.edges.proofs.same.Goals as goal

pub returns : goal.returns
returns c =
    same_bits w32 c.args.a c.args.b c.ranges.a c.ranges.b
