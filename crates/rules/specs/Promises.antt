-- What the check of a store promises: its answer, and the index that it leaves in the work that is lent.
use Rattle.std.specs.Prelude.{ℕ, ◌≤◌, ◌≡◌, Bool, true, List, length}
use Rattle.codes.specs.Lent.{Part, old, new}
use Rattle.codes.specs.Limits.{limits}
use Rattle.store.specs.Store.{Store}
use Rattle.store.specs.Keeps.{Decides, keeps}
use Rattle.unique_table.specs.Index.{AllAlone, Finds, width_for}

-- 'no two nodes alike'; where none are, the index for `most` nodes knows them, if the work has room for it
pub record AlonePromise (σ : Store) (most : ℕ) (work : Part (List ℕ)) (r : Bool) : Type 0 where
  pub alone : Decides r (AllAlone σ σ.count)
  pub found : r ≡ true → σ.count ≤ most → Finds (width_for most (length (old work))) σ σ.count (new work)

-- '3 the store breaks its rules'; where it keeps them, likewise
pub record KeepsPromise (σ : Store) (most : ℕ) (work : Part (List ℕ)) (r : Bool) : Type 0 where
  pub kept : r ≡ keeps limits σ
  pub found : r ≡ true → σ.count ≤ most → Finds (width_for most (length (old work))) σ σ.count (new work)
