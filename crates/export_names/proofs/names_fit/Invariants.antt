-- `names_fit` meets its contract. The outer invariant: the first i names are fit, and the rest decides. The inner one: the first k bytes of
-- the name are read, and the state and the other bytes decide.
use mathlib.Core.Path.{◌≡◌}
use mathlib.Core.Bool.{true}
use Rattle.export_names.proofs.NameReading.{Reading}
use Rattle.export_names.proofs.NameLists.{Checked}
use Rattle.export_names.proofs.names_fit.Given as goal

abbrev pub invariant-loop-k : goal.invariant-loop-k
invariant-loop-k l =
    Reading l.diagram l.bytes l.start l.len l.state l.k × (l.fit ≡ l.initial.fit)

abbrev pub invariant-names : goal.invariant-names
invariant-names l =
    Checked l.diagram l.bytes l.starts l.lens l.i × (l.fit ≡ true)
