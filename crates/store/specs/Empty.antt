-- The empty store. Document 01, 'Store and meaning': 'an empty store counts 1, all else zero but its level count'.
use Rattle.std.specs.Prelude.{ℕ, replicate, pos}
use Rattle.store.specs.Store.{Store, store}

-- an empty store with that many levels and slots
unfoldable pub empty : ℕ → ℕ → Store
empty levels slots = store levels 1 (replicate slots 0) (replicate slots (pos 0)) (replicate slots (pos 0)) (replicate slots 0) (replicate 256 0)
