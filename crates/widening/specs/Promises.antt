-- What the turn promises.
use Rattle.std.specs.Prelude.{ℕ, ◌≡◌, List, Result, length, replicate}
use Rattle.codes.specs.Lent.{Part, old, new}
use Rattle.codes.specs.Refusals.{read_of}
use Rattle.codes.specs.declared.refusal.Refusal.{Refusal}
use Rattle.store.specs.Store.{Store}
use Rattle.widened.specs.Widen.{lengths_of, widen_answer, widen_of}

-- of the old store σ, and the new one as the call starts and as it ends
pub record WidenPromise (σ τ υ : Store) (work : Part (List ℕ)) (r : Result Unit Refusal) : Type 0 where
  -- 'slot lists unequal or shorter than the old count, or other than 256 heads, meet 1, before 3'
  pub answer : read_of r ≡ widen_answer (lengths_of τ) σ
  -- 'a new one with its level count and every node, chain and root number kept'; 'On any refusal outputs are all zeros'
  pub store : υ ≡ widen_of (lengths_of τ) σ
  -- 'Scratch ends as zeros.'
  pub work_left : new work ≡ replicate (length (old work)) 0
