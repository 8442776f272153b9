-- `meet_all` meets its contract. The invariant: the nodes of the roots before the index lie in the lent list and are marked.
use mathlib.Core.Path.{◌≡◌}
use mathlib.Core.List.{[]}
use lib.ListN.{length}
use Rattle.store.specs.Store.{store}
use Rattle.reached.proofs.RootWalk.{RootsMet}
use Rattle.reached.proofs.meet_all.Given as goal

abbrev pub invariant-loop-root : goal.invariant-loop-root
invariant-loop-root l =
    RootsMet (store 0 0 [] l.then l.els [] []) l.roots l.initial.met l.met l.marks l.at l.root-index × (length l.marks ≡ length l.initial.marks)
