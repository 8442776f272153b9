-- What the calls that join two roots and give the opposite of one promise.
use Rattle.std.specs.Prelude.{ℕ, ◌≡◌, cond, ◌&&◌, List, length, replicate, ℤ, pos, Option, Result}
use Rattle.codes.specs.Limits.{Limits, limits}
use Rattle.codes.specs.Lent.{Part, old, new}
use Rattle.codes.specs.Refusals.{read_of, fault_of}
use Rattle.codes.specs.declared.refusal.Refusal.{Refusal}
use Rattle.store.specs.Store.{Store}
use Rattle.store.specs.Keeps.{keeps}
use Rattle.store.specs.Growth.{is_root}
use Rattle.unique_table.specs.Index.{Finds, width_for}
use Rattle.slots.specs.Most.{most_nodes}
use Rattle.insertion.specs.Kinds.{of_making}
use Rattle.joined.specs.declared.Op.{Op}
use Rattle.joined.specs.Join.{join_of, Ready}
use Rattle.joined.specs.Roots.{settled_join, join_roots, opposite_root}

-- '3, 4': what refuses a join before any node is made, 0 for nothing
abbrev pub join_fault : Limits → Store → ℤ → ℤ → ℕ
join_fault m σ a b = cond (keeps m σ) (cond (is_root σ a && is_root σ b) 0 4) 3

pub record JoinFaultPromise (σ : Store) (a b : ℤ) (work : Part (List ℕ)) (r : Result Unit Refusal) : Type 0 where
  pub fault : fault_of r ≡ join_fault limits σ a b
  -- where nothing is found, the work finds the store's nodes
  pub finds : fault_of r ≡ 0 → Finds (width_for (most_nodes (length σ.level)) (length (old work))) σ σ.count (new work)

-- two edges of a store that keeps its rules, and work that finds its nodes
pub record SettleAsks (σ : Store) (work : List ℕ) (a b : ℤ) : Type 0 where
  pub ready : Ready limits σ a b
  pub finds : Finds (width_for (most_nodes (length σ.level)) (length work)) σ σ.count work

-- The store as the call starts, and as it ends.
module _ (before after : Store) (op : Op) (left right : ℤ) where
  -- the join, with its nodes taken back where there is no room for all
  pub record SettlePromise (r : Option ℤ) : Type 0 where
    pub answer : of_making r ≡ (settled_join before (join_of limits op before left right)).answer
    pub store : after ≡ (settled_join before (join_of limits op before left right)).after

  -- 'gives the root of their and, their or, or their exclusive or'; '3, 4, 40'
  pub record RootsPromise (r : Result ℤ Refusal) : Type 0 where
    pub answer : read_of r ≡ (join_roots limits op before left right).answer
    -- 'New nodes are those of the result that the store lacks'; 'On any refusal .. the store is unchanged'
    pub store : after ≡ (join_roots limits op before left right).after

  pub record JoinPromise (cache : Part (List ℤ)) (work : Part (List ℕ)) (r : Result ℤ Refusal) : Type 0 where
    pub answer : read_of r ≡ (join_roots limits op before left right).answer
    -- 'New nodes are those of the result that the store lacks'; 'On any refusal .. the store is unchanged'
    pub store : after ≡ (join_roots limits op before left right).after
    -- 'Scratch ends as zeros.'
    pub cache_left : new cache ≡ replicate (length (old cache)) (pos 0)
    pub work_left : new work ≡ replicate (length (old work)) 0

pub record OppositePromise (σ : Store) (root : ℤ) (work : Part (List ℕ)) (r : Result ℤ Refusal) : Type 0 where
  -- 'another gives the opposite of one root'; '3, 4'
  pub answer : read_of r ≡ opposite_root limits σ root
  -- 'Scratch ends as zeros.'
  pub work_left : new work ≡ replicate (length (old work)) 0
