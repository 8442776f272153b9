-- `chains_hold` meets its contract: up to i each next is the newest older node of its bucket, and the local list has the newest node of each
-- bucket; after the last node these are the heads.
use Prim.Native.Nat.{◌+◌}
use Rattle.store.specs.Held.{held}
use Rattle.rules.proofs.Pass.{Passed}
use Rattle.rules.proofs.chains_hold.Given as goal

abbrev pub invariant-loop-i : goal.invariant-loop-i
invariant-loop-i l =
    Passed (held l.store) l.newest (l.i + 1)
