-- The invariant: the levels of the nodes before the index are marked.
use mathlib.Core.List.{[]}
use lib.ListN.{length}
use Rattle.store.specs.Store.{store}
use Rattle.export_support.proofs.LevelSeats.{Marking}
use Rattle.export_support.proofs.mark_levels.Given as goal

abbrev pub invariant-loop-n : goal.invariant-loop-n
invariant-loop-n l = Marking (store l.levels 0 l.level [] [] [] []) l.levels l.nodes (length l.initial.seats) l.seats l.n-index
