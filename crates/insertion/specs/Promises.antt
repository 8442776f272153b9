-- What finding or making a node with a positive then promises.
use Rattle.std.specs.Prelude.{ℕ, ◌≤◌, ◌≡◌, List, ℤ, Option, Result, Ok, Err}
use Rattle.store.specs.Store.{Store}
use Rattle.codes.specs.Limits.{limits}
use Rattle.store.specs.Make as nodes
use Rattle.insertion.specs.Kinds.{of_making}
use Rattle.insertion.specs.Known.{KnownNodes, EndsAt}

-- the node that the definition's search finds; or it finds none, and, in an index, a search for it ended at the entry
abbrev pub LookUpPromise : Store → List ℕ → ℕ → ℕ → ℤ → ℤ → Result ℕ ℕ → Type 0
LookUpPromise σ index width l t e (Ok n) = (1 ≤ n) × (n ≡ nodes.find σ l t e)
LookUpPromise σ index width l t e (Err at) = (0 ≡ nodes.find σ l t e) × (1 ≤ width → EndsAt width σ index l t e at)

-- 'A node not found takes the next number.' The store as the call starts, and as it ends; the index as it ends.
pub record InsertPromise (before after : Store) (index : List ℕ) (width l : ℕ) (t e : ℤ) (r : Option ℤ) : Type 0 where
  pub answer : of_making r ≡ (nodes.insert limits before l t e).answer
  pub store : after ≡ (nodes.insert limits before l t e).after
  pub known : KnownNodes width after index
