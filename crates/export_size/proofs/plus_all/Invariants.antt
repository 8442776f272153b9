-- The invariant: the total is within the limit, and with the lengths from the index on it gives the whole sum.
use Prim.Native.Nat.{◌+◌, ◌*◌, ◌≤◌}
use mathlib.Core.Path.{◌≡◌}
use lib.ListN.{drop}
use Rattle.export_size.specs.Size.{sum}
use Rattle.export_size.proofs.plus_all.Given as goal

abbrev pub invariant-loop-len : goal.invariant-loop-len
invariant-loop-len l = record {
  held : l.total ≤ l.max;
  rest : l.total + l.times * sum (drop l.len-index l.lens) ≡ l.start + l.times * sum l.lens;
}
