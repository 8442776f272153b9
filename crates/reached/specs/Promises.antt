-- What a walk promises.
use Rattle.std.specs.Prelude.{ℕ, ◌≡◌, List, [], Option, length, replicate, take, ℤ}
use Rattle.store.specs.Store.{Store, store}
use Rattle.codes.specs.Lent.{Part, old, new}
use Rattle.reached.specs.Walk.{first_met}
use Rattle.reached.specs.Meet.{meet, children_of, first_unmarked, ListedNodes}

module _ (then els : Part (List ℤ)) where
  -- a walk reads no more of a store than its then and else
  abbrev links : Store
  links = store 0 0 [] (old then) (old els) [] []

  -- the first child that has no mark
  abbrev pub NextChildPromise : Part (List ℕ) → ℕ → Option ℕ → Type 0
  NextChildPromise marks n r = r ≡ first_unmarked (old marks) (children_of links n)

  -- the node and those under it that weren't listed are, after the first `at`; all that are listed are marked
  abbrev pub MeetPromise : ℕ → Part (List ℕ) → Part (List ℕ) → ℕ → ℕ → Type 0
  MeetPromise n met marks at r = ListedNodes (meet links (take at (old met)) n) (old met) r (new met) (new marks)

  -- the nodes that the roots lead to are listed in the order of their first meeting, zeros after them, and they are marked
  abbrev pub MeetAllPromise : Part (List ℤ) → Part (List ℕ) → Part (List ℕ) → ℕ → Type 0
  MeetAllPromise roots met marks r = ListedNodes (first_met links (old roots)) (replicate (length (old met)) 0) r (new met) (new marks)
