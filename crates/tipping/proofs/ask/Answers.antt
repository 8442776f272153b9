-- `ask` meets its contract: what is left of the way gives the edge's answer, turned over where the minuses so far are odd in number.
use Rattle.evaluation.proofs.Walk.{walk-back}
use Rattle.tipping.proofs.Stepping.{asking-start, asking_walks, asking-two, asking-less, asking-on, asking-end}
use Rattle.tipping.proofs.ask.Goals as goal

pub loop-mark-init : goal.loop-mark-init
loop-mark-init c =
    let w = c.requires in
    asking-start (rw (walk-back _ w.walks) w) c.magnitude-n.ensures c.is_minus-odd.ensures c.recall-mark.ensures

pub taken-x-requires : goal.taken-x-requires
taken-x-requires c =
    let A = c.loop-mark.invariant in (asking-two A c.loop-mark-test.true, asking_walks A)

pub loop-mark-smaller : goal.loop-mark-smaller
loop-mark-smaller c =
    let l = c in
    asking-less l.loop-mark.invariant l.loop-mark-test.true c.taken-x.ensures c.is_minus-odd-in-loop-mark.ensures
    c.magnitude-n-in-loop-mark.ensures

pub loop-mark-preserved : goal.loop-mark-preserved
loop-mark-preserved c =
    let l = c in
    asking-on l.loop-mark.invariant l.loop-mark-test.true c.taken-x.ensures c.is_minus-odd-in-loop-mark.ensures
    c.magnitude-n-in-loop-mark.ensures c.recall-mark-in-loop-mark.ensures

pub returns : goal.returns
returns c =
    asking-end c.loop-mark.invariant c.loop-mark-test.false (walk-back _ c.requires.walks)
