-- How many nodes a store can have.
use mathlib.Core.Bool.{Bool, true, false, cond}
use Prim.Native.Nat.{ℕ, ◌≤◌}
use lib.Dec.{ltb}
use Rattle.codes.specs.Limits.{node_limit}
use Rattle.slots.specs.Most.{most_nodes}

-- no store that keeps the rules of sizes has more
pub most-all : (len n : ℕ) → n ≤ len → n ≤ node_limit → n ≤ most_nodes len
most-all len n h k = go (ltb len node_limit)
  where
    go : (b : Bool) → n ≤ cond b len node_limit
    go true = h
    go false = k
