-- `backward` meets its contract: what is left to trim gives what the whole does.
use mathlib.Core.Path.{◌≡◌}
use Prim.Native.Nat.{◌-◌}
use Rattle.read_lines.specs.Line.{is_of, trim}
use Rattle.read_lines.proofs.backward.Given as goal

abbrev pub invariant-loop-i : goal.invariant-loop-i
invariant-loop-i l =
    trim (is_of l.class) l.f l.from (l.end - l.from) ≡ trim (is_of l.class) l.f l.from (l.i - l.from)
