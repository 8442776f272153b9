-- What the public evaluation promises.
use Rattle.std.specs.Prelude.{ℕ, ◌≡◌, Bool, List, length, replicate, ℤ, Result}
use Rattle.codes.specs.Limits.{limits}
use Rattle.codes.specs.Lent.{Part, old, new}
use Rattle.codes.specs.Refusals.{read_of}
use Rattle.codes.specs.declared.refusal.Refusal.{Refusal}
use Rattle.store.specs.Store.{Store}
use Rattle.evaluation.specs.Evaluation.{evaluation}

pub record EvaluationPromise (σ : Store) (root : ℤ) (setting work : Part (List ℕ)) (r : Result Bool Refusal) : Type 0 where
  -- 'Evaluation gives 3, 4.' 'An edge's answer is its node's, turned over under a minus'
  pub answer : read_of r ≡ evaluation limits σ root (old setting)
  -- 'Scratch ends as zeros.'
  pub work_left : new work ≡ replicate (length (old work)) 0
