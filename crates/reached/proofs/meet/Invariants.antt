-- `meet` meets its contract. The invariant: what is met once the children of the node at hand are, and those on the way back, is what the whole
-- walk meets. A turn goes down to a node that wasn't met, or back to a higher number: the measure is the room that is left, and then how much
-- higher the numbers go.
use mathlib.Core.List.{[]}
use Prim.Native.Nat.{suc, ◌+◌, ◌-◌, ◌*◌}
use lib.ListN.{length, take}
use Rattle.codes.specs.Limits.{node_limit}
use Rattle.store.specs.Store.{store}
use Rattle.reached.specs.Meet.{meet}
use Rattle.reached.proofs.NodeWalk.{Walking}
use Rattle.reached.proofs.meet.Given as goal

abbrev pub invariant-loop-child : goal.invariant-loop-child
invariant-loop-child l =
    Walking (store 0 0 [] l.then l.els [] []) (meet (store 0 0 [] l.then l.els [] []) (take l.at l.initial.met) l.first)
    l.initial.met (length l.initial.marks) l.initial.next l.met l.marks l.next l.n

abbrev pub decreases-loop-child : goal.decreases-loop-child
decreases-loop-child l =
    (length l.initial.met - l.next) * suc node_limit + (node_limit - l.n)
