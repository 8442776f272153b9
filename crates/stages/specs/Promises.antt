-- What the check of the store in a load promises.
use Rattle.std.specs.Prelude.{ℕ, ◌≡◌, List, length}
use Rattle.codes.specs.Lent.{Part, old, new}
use Rattle.store.specs.Store.{Store}
use Rattle.unique_table.specs.Index.{Finds, width_for}
use Rattle.slots.specs.Most.{most_nodes}
use Rattle.stages.specs.Stages.{store_after}

pub record StoreFaultPromise (found : ℕ) (σ : Store) (work : Part (List ℕ)) (r : ℕ) : Type 0 where
  -- '3 the store breaks its rules', after what was found before
  pub fault : r ≡ store_after found σ
  -- where nothing is found, the work finds the store's nodes
  pub finds : r ≡ 0 → Finds (width_for (most_nodes (length σ.level)) (length (old work))) σ σ.count (new work)
