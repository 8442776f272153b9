-- What the call that gives a tipping point promises.
use Rattle.std.specs.Prelude.{ℕ, ◌≡◌, List, Result, length, replicate, ℤ}
use Rattle.codes.specs.Limits.{limits}
use Rattle.codes.specs.Lent.{Part, old, new}
use Rattle.codes.specs.Refusals.{read_of}
use Rattle.codes.specs.declared.refusal.Refusal.{Refusal}
use Rattle.store.specs.Store.{Store}
use Rattle.tipping.specs.Tip.{tip_of}

pub record TipPromise (σ : Store) (root : ℤ) (setting work : Part (List ℕ)) (r : Result ℕ Refusal) : Type 0 where
  -- 'the lowest level whose flip alone turns the answer over'; 3, 4, 42
  pub answer : read_of r ≡ tip_of limits σ root (old setting)
  -- 'Scratch ends as zeros.'
  pub work_left : new work ≡ replicate (length (old work)) 0
