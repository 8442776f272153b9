-- `same` meets its contract: the bytes not compared yet decide as the whole texts do.
use mathlib.Core.Path.{◌≡◌}
use lib.ListN.{drop}
use Rattle.read_text.specs.Alike.{alike}
use Rattle.read_text.proofs.same.Given as goal

abbrev pub invariant-loop-i : goal.invariant-loop-i
invariant-loop-i l =
    alike l.a l.b ≡ alike (drop l.i l.a) (drop l.i l.b)
