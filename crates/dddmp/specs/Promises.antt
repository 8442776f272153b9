-- What the public calls promise. Document 01, 'Agreed between us': 'Every public call carries a promise that names its outcome for each
-- input: value, number, line, and the content of each lent part, by an equation with a definition.' What `export` promises stands in
-- `exporter/specs/Promise`.
use Rattle.std.specs.Prelude.{ℕ, ◌≡◌, List, Bool, Result, length, replicate, ℤ}
use Rattle.codes.specs.Limits.{limits}
use Rattle.codes.specs.Lent.{Part, old, new}
use Rattle.codes.specs.Refusals.{read_of}
use Rattle.codes.specs.declared.refusal.Refusal.{Refusal}
use Rattle.store.specs.Store.{Store}
use Rattle.header.specs.Kinds.{Loaded, of_loaded}
use Rattle.calls.specs.Load as calls
use Rattle.calls.specs.Load.{Parts, parts, lengths_of, load_into, parts_of, load_of}
use Rattle.calls.specs.Calls.{evaluate_of}

module _ (f list : Part (List ℕ)) (before after : Store) (ids order permids auxids names lens : Part (List ℕ)) (roots : Part (List ℤ))
    (rootnames rootlens : Part (List ℕ)) (edges : Part (List ℤ)) (seats : Part (List ℕ)) where
  -- the lists that are lent beside the store, as the call starts and as it ends
  abbrev pub old_parts : Parts
  old_parts =
      parts (old ids) (old order) (old permids) (old auxids) (old names) (old lens) (old roots) (old rootnames) (old rootlens) (old edges) (old seats)

  abbrev pub new_parts : Parts
  new_parts =
      parts (new ids) (new order) (new permids) (new auxids) (new names) (new lens) (new roots) (new rootnames) (new rootlens) (new edges) (new seats)

  -- 'load gives 1 (lists), 3, 19 for the input's length, header, 1 (scratch), 2, nodes, 39'
  abbrev pub loaded : calls.Loaded
  loaded = load_of limits (load_into (old f) (old list) old_parts) before

  pub record LoadPromise (work : Part (List ℕ)) (r : Loaded) : Type 0 where
    -- 'A refusal is a number and a line.'
    pub answer : of_loaded r ≡ loaded.answer
    -- 'On any refusal .. the store is unchanged'
    pub store : after ≡ loaded.after
    -- 'On any refusal outputs are all zeros ..; on success unused output is zero. Scratch ends as zeros.'
    pub lists : new_parts ≡ parts_of (lengths_of old_parts) loaded
    pub work_left : new work ≡ replicate (length (old work)) 0

pub record EvaluatePromise (σ : Store) (root : ℤ) (setting work : Part (List ℕ)) (r : Result Bool Refusal) : Type 0 where
  -- 'Evaluation gives 3, 4.'
  pub answer : read_of r ≡ evaluate_of limits root (old setting) σ
  -- 'Scratch ends as zeros.'
  pub work_left : new work ≡ replicate (length (old work)) 0
