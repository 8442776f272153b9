-- The store in lent lists: at a `requires`, as the call starts, as it ends.
use Rattle.std.specs.Prelude.{ℕ, List, ℤ}
use Rattle.codes.specs.Lent.{Part, old, new}
use Rattle.store.specs.Store.{Store, store}

abbrev pub store_now : ℕ → ℕ → List ℕ → List ℤ → List ℤ → List ℕ → List ℕ → Store
store_now levels count level then els next heads = store levels count level then els next heads

abbrev pub old_store : ℕ → ℕ → Part (List ℕ) → Part (List ℤ) → Part (List ℤ) → Part (List ℕ) → Part (List ℕ) → Store
old_store levels count level then els next heads = store levels count (old level) (old then) (old els) (old next) (old heads)

abbrev pub new_store : ℕ → ℕ → Part (List ℕ) → Part (List ℤ) → Part (List ℤ) → Part (List ℕ) → Part (List ℕ) → Store
new_store levels count level then els next heads = store levels count (new level) (new then) (new els) (new next) (new heads)
