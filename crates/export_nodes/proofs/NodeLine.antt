-- The lines of a node's children come before its own.
use mathlib.Core.List.{List}
use Prim.Native.Nat.{ℕ, ◌<◌}
use lib.IntN.{ℤ, nat_abs}
use Rattle.store.specs.Store.{Store}
use Rattle.export_nodes.specs.Tables.{line_number_of, ChildLine}
use Rattle.export_nodes.proofs.EdgeNumbers.{number-abs}

-- A child has an earlier line.
pub child-below : {σ : Store} {numbers seats : List ℕ} {n : ℕ} (e : ℤ) → ChildLine σ numbers seats n (nat_abs e) → nat_abs (line_number_of numbers e) < n
child-below {σ} {numbers} e c = rw (number-abs numbers e) c.earlier
