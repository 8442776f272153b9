-- `forward` meets its contract: what is left to search gives what the whole search gives.
use mathlib.Core.Path.{◌≡◌}
use Prim.Native.Nat.{◌-◌}
use Rattle.read_lines.specs.Line.{is_of, seek}
use Rattle.read_lines.proofs.forward.Given as goal

abbrev pub invariant-loop-i : goal.invariant-loop-i
invariant-loop-i l =
    seek (is_of l.class) l.f l.from (l.end - l.from) ≡ seek (is_of l.class) l.f l.i (l.end - l.i)
