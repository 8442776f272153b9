-- The store that a stretch is copied into.
use Rattle.std.specs.Prelude.{ℕ, []}
use Rattle.store.specs.Store.{Store, store}
use Rattle.stretch.specs.declared.LittleStore.{LittleStore}

-- its nodes 2 to c: it has no levels and no chains, which none of what is said of a stretch looks at
abbrev pub little_store : LittleStore → ℕ → Store
little_store s c = store 0 c s.level s.then s.els [] []
