-- `at_least` meets its contract. The invariant: the lengths so far are enough, so that the others decide.
use mathlib.Core.Path.{sym}
use Rattle.header.proofs.Lengths.{lengths-end, lengths_short, lengths-more}
use Rattle.stages.proofs.at_least.Goals as goal

pub returns-then-n-least : goal.returns-then-n-least
returns-then-n-least c =
    sym (lengths_short _ _ _ c.loop-n.invariant c.loop-n-test.true c.if-n-least.true)

pub loop-n-preserved : goal.loop-n-preserved
loop-n-preserved c =
    lengths-more _ _ _ c.loop-n.invariant c.loop-n-test.true c.if-n-least.false

pub returns : goal.returns
returns c =
    sym (lengths-end _ _ _ c.loop-n.invariant c.loop-n-test.false)
