-- How many nodes a join needs. Document 02, request 2: '40 only where those nodes don't fit'; document 01: '40 .. every slot lent, or [the limit], is
-- used'.
use Rattle.std.specs.Prelude.{ℕ, zero, suc, ◌+◌, ◌≤◌, length, ℤ}
use Rattle.codes.specs.Limits.{Limits}
use Rattle.store.specs.Store.{Store}
use Rattle.store.specs.Room.{roomier, with_room}
use Rattle.joined.specs.declared.Op.{Op}
use Rattle.joined.specs.Join.{join_of}

-- how many nodes a join can make below so many levels: a node, and those of both its sides
unfoldable pub most_made : ℕ → ℕ
most_made zero = 0
most_made (suc d) = most_made d + (most_made d + 1)

-- the count that a join with no limit would reach
unfoldable pub count_joined : Op → Store → ℤ → ℤ → ℕ
count_joined o σ a b = (join_of (with_room (most_made σ.levels) σ) o (roomier (most_made σ.levels) σ) a b).after.count

-- 'those nodes' fit: they are within the slots lent and the limit
pub record JoinFits (m : Limits) (o : Op) (σ : Store) (a b : ℤ) : Type 0 where
  pub slots : count_joined o σ a b ≤ length σ.level
  pub limit : count_joined o σ a b ≤ m.nodes
