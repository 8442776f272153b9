-- `seat_levels` meets its contract. The invariant: the levels below l have their seats.
use mathlib.Core.List.{[]}
use lib.ListN.{length}
use Rattle.store.specs.Store.{store}
use Rattle.export_support.proofs.LevelSeats.{Counting}
use Rattle.export_support.proofs.seat_levels.Given as goal

abbrev pub invariant-loop-l : goal.invariant-loop-l
invariant-loop-l l =
    Counting (store l.levels 0 l.level [] [] [] []) l.levels l.nodes (length l.initial.seats) l.seats l.seat l.l
