-- `read_lines` meets its contract: each turn of the loop reads one line and makes it into the store; the lines left are fewer each time.
use lib.ListN.{length}
use Rattle.store.specs.Held.{held_mut, SameLists}
use Rattle.insertion.specs.Known.{KnownNodes}
use Rattle.import_steps.specs.Kinds.{of_setup}
use Rattle.import_lines.proofs.Progress.{Progress}
use Rattle.import_lines.proofs.read_lines.Given as goal

abbrev pub invariant-loop-n : goal.invariant-loop-n
invariant-loop-n l = record {
  progress : Progress (of_setup l.setup l.list l.levels) (held_mut l.initial.store) l.f l.from (length l.initial.edges) (length l.initial.seats)
      (held_mut l.store) l.edges l.seats l.n l.at;
  known : KnownNodes l.width (held_mut l.store) l.index;
  same : SameLists l.initial.store l.store;
}
