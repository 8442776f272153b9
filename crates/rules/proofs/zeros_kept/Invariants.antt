-- `zeros_kept` meets its contract: the answer so far is that of slot 1 and the unused slots up to the one looked at.
use Rattle.store.specs.Held.{held}
use Rattle.rules.proofs.Zeros.{Looked}
use Rattle.rules.proofs.zeros_kept.Given as goal

abbrev pub invariant-loop-used : goal.invariant-loop-used
invariant-loop-used l =
    Looked (held l.store) l.zero l.used
