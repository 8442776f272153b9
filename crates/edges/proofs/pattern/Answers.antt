-- `pattern` meets its contract: the bits of an edge are what it adds to a sum that wraps.
use Rattle.std.proofs.Common.{w32, arith}
use Rattle.edges.proofs.Signed.{bits_is}
use Rattle.edges.proofs.pattern.Goals as goal

pub returns : goal.returns
returns c = grind (arith, c.cast_unsigned.ensures, bits_is w32 c.args.e c.ranges.e)
