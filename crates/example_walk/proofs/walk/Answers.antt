-- `walk` meets its contract: at each node the setting so far is right down to the node's level, and what the node is to answer is left.
use Rattle.evaluation.proofs.Walk.{walk-back}
use Rattle.example_walk.proofs.Stepping.{stepping-start, stepping-yes, stepping-no, stepping-end}
use Rattle.example_walk.proofs.walk.Goals as goal

pub loop-n-init : goal.loop-n-init
loop-n-init c =
    let w = c.requires in
    stepping-start (rw (walk-back _ w.walks) w) c.magnitude-n.ensures c.is_minus.ensures

pub loop-n-preserved-then-never_answers : goal.loop-n-preserved-then-never_answers
loop-n-preserved-then-never_answers c =
    stepping-yes c.loop-n.invariant c.loop-n-test.true c.never_answers.ensures c.if-never_answers.true c.magnitude-n-then-never_answers.ensures

pub loop-n-preserved : goal.loop-n-preserved
loop-n-preserved c =
    stepping-no c.loop-n.invariant c.loop-n-test.true c.never_answers.ensures c.if-never_answers.false
    c.magnitude-n-else-never_answers.ensures c.is_minus-asked.ensures

pub returns : goal.returns
returns c =
    let w = stepping-end (rw (walk-back _ c.requires.walks) at c.loop-n.invariant) c.loop-n-test.false in
    record { chosen = w.0; first = w.2; left = w.1 }
