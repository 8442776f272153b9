-- What reading the sides of edges asks of a store's lists, and what it gives.
use Rattle.std.specs.Prelude.{◌≤◌, ◌≡◌, Bool, true, false, cond, length, ℤ, nat_abs}
use Rattle.edges.specs.Edge.{IsEdge}
use Rattle.store.specs.Store.{Store, then_at, else_at}
use Rattle.joined.specs.Join.{through, side, top}
use Rattle.joined.specs.declared.Pair.{Pair}
use Rattle.join_steps.specs.declared.Sides.{Sides}
use Rattle.join_steps.specs.declared.Split.{Split}

-- the slot of the edge's node is there, and what it holds are edges of the width
pub record Slots (σ : Store) (a : ℤ) : Type 0 where
  pub some : 1 ≤ nat_abs a
  pub then_long : nat_abs a ≤ length σ.then
  pub else_long : nat_abs a ≤ length σ.els
  pub then_edge : IsEdge (then_at σ (nat_abs a))
  pub else_edge : IsEdge (else_at σ (nat_abs a))

-- both sides of an edge, whose node lies at the level or doesn't
pub record BothSides (σ : Store) (here : Bool) (a : ℤ) (r : Sides) : Type 0 where
  pub yes : r.then ≡ cond here (through a (then_at σ (nat_abs a))) a
  pub no : r.els ≡ cond here (through a (else_at σ (nat_abs a))) a

-- two edges of which neither leads to node 1, with their slots
pub record SplitAsks (σ : Store) (a b : ℤ) : Type 0 where
  pub left_deep : 2 ≤ nat_abs a
  pub right_deep : 2 ≤ nat_abs b
  pub left_level : nat_abs a ≤ length σ.level
  pub right_level : nat_abs b ≤ length σ.level
  pub left : Slots σ a
  pub right : Slots σ b

-- the sides of two edges at the smaller of their levels
pub record SidesPromise (σ : Store) (y : Bool) (a b : ℤ) (r : Pair) : Type 0 where
  pub left : r.left ≡ side σ (top σ a b) y a
  pub right : r.right ≡ side σ (top σ a b) y b

-- that level, and both sides there
pub record SplitPromise (σ : Store) (a b : ℤ) (r : Split) : Type 0 where
  pub level : r.level ≡ top σ a b
  pub then : SidesPromise σ true a b r.then
  pub els : SidesPromise σ false a b r.els
