-- `ask` meets its contract: what is left of the way gives the edge's answer, turned over where the minuses so far are odd in number.
use Rattle.store.specs.Held.{held}
use Rattle.tipping.proofs.Stepping.{Asking}
use Rattle.tipping.proofs.ask.Given as goal

abbrev pub invariant-loop-mark : goal.invariant-loop-mark
invariant-loop-mark l =
    Asking (held l.store) l.setting l.marks l.e l.n l.odd l.mark

abbrev pub decreases-loop-mark : goal.decreases-loop-mark
decreases-loop-mark l =
    l.n
