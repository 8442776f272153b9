-- `split_pair` meets its contract: the level, and the sides of both edges there.
use Rattle.std.proofs.Common.{arith}
use Rattle.store.specs.Held.{held}
use Rattle.join_steps.proofs.Reading.{split-read}
use Rattle.join_steps.proofs.split_pair.Goals as goal

pub returns : goal.returns
returns c =
    split-read (held c.args.store.now) c.args.a c.args.b c.ranges.a c.ranges.b c.requires
    _ _ c.level_of-x.ensures c.level_of-y.ensures _ _ c.sides_of-left.ensures c.sides_of-right.ensures _ (omega arith)
