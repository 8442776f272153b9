-- What making a node and taking nodes back ask, and what they promise.
use Rattle.std.specs.Prelude.{ℕ, ◌-◌, ◌≤◌, ◌≡◌, List, ℤ, Option}
use Rattle.store.specs.Store.{Store}
use Rattle.codes.specs.Answer.{Read, value, refused}
use Rattle.codes.specs.Limits.{limits}
use Rattle.store.specs.Rules.{Rules}
use Rattle.store.specs.Make as nodes
use Rattle.insertion.specs.Kinds.{of_making}
use Rattle.insertion.specs.Known.{KnownNodes}

-- how many nodes stay: all, or those that were there before
abbrev pub stays : Read ℤ → ℕ → ℕ → ℕ
stays (value x) before count = count
stays (refused n) before count = before

-- a store that keeps its rules, children of it that lie deeper, and an index that knows its nodes
pub record MakeAsks (σ : Store) (index : List ℕ) (width l : ℕ) (t e : ℤ) : Type 0 where
  pub rules : Rules limits σ
  pub children : nodes.Makes σ l t e
  pub known : KnownNodes width σ index

-- a store that keeps its rules, and one of its nodes
pub record TakeBackAsks (σ : Store) (to : ℕ) : Type 0 where
  pub rules : Rules limits σ
  pub some : 1 ≤ to
  pub there : to ≤ σ.count

-- 'Equal children give that child; a minus on then moves to both the else and the result.' The store as the call starts, and as it ends; the index
-- as it ends.
pub record MakePromise (before after : Store) (index : List ℕ) (width l : ℕ) (t e : ℤ) (r : Option ℤ) : Type 0 where
  pub answer : of_making r ≡ (nodes.make limits before l t e).answer
  pub store : after ≡ (nodes.make limits before l t e).after
  pub known : KnownNodes width after index

-- the nodes above number `to` are taken back, newest first
pub record TakeBackPromise (before after : Store) (to : ℕ) : Type 0 where
  pub store : after ≡ nodes.back (before.count - to) before
