-- What the last stages of a load promise.
use Rattle.std.specs.Prelude.{ℕ, ◌≡◌, List, length, replicate, ℤ, pos}
use Rattle.codes.specs.Lent.{Part, old, new}
use Rattle.store.specs.Store.{Store}
use Rattle.header.specs.Kinds.{Loaded, of_loaded}
use Rattle.stages.specs.Stages.{Noded, nodes_after, is_refusal, cleared_if}

module _ (ready : Loaded) (f list : Part (List ℕ)) (before after : Store) (roots edges : Part (List ℤ)) (seats : Part (List ℕ)) where
  -- 'nodes, 39', after the answer so far
  abbrev noded : Noded
  noded = nodes_after (of_loaded ready) before (old f) (old list) (old roots)

  -- 'On any refusal outputs are all zeros and the store is unchanged; .. Scratch ends as zeros.'
  pub record LoadNodesPromise (work : Part (List ℕ)) (r : Loaded) : Type 0 where
    pub answer : of_loaded r ≡ noded.answer
    pub store : after ≡ noded.after
    pub roots_left : new roots ≡ noded.roots
    pub edges_left : new edges ≡ replicate (length (old edges)) (pos 0)
    pub seats_left : new seats ≡ replicate (length (old seats)) 0
    pub work_left : new work ≡ replicate (length (old work)) 0

module _ (answer : Loaded) where
  -- 'On any refusal outputs are all zeros'; else a list is as it was
  abbrev Ended : Part (List ℕ) → Type 0
  Ended l = new l ≡ cleared_if (is_refusal (of_loaded answer)) (old l)

  pub record FinishPromise (ids order permids auxids names lens rootnames rootlens : Part (List ℕ)) : Type 0 where
    pub ids_left : Ended ids
    pub order_left : Ended order
    pub permids_left : Ended permids
    pub auxids_left : Ended auxids
    pub names_left : Ended names
    pub lens_left : Ended lens
    pub rootnames_left : Ended rootnames
    pub rootlens_left : Ended rootlens
