-- `distinct` meets its contract: the chains of the buckets below b are judged.
use mathlib.Core.Path.{◌≡◌}
use lib.ListN.{length}
use Rattle.store.specs.Held.{held}
use Rattle.stretch.specs.Chained.{stretch_entries}
use Rattle.stretches.proofs.Heads.{BucketsAlone}
use Rattle.stretches.proofs.distinct.Given as goal

abbrev pub invariant-loop-n : goal.invariant-loop-n
invariant-loop-n l = record { alone : BucketsAlone (held l.store) l.n-index; long : length l.index ≡ stretch_entries }
