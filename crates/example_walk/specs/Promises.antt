-- What the call that gives an example promises, and the functions below it.
use Rattle.std.specs.Prelude.{ℕ, ◌≡◌, Bool, List, length, replicate, ℤ, Result}
use Rattle.codes.specs.Answer.{Read, value, refused}
use Rattle.codes.specs.Limits.{limits}
use Rattle.codes.specs.Lent.{Part, old, new}
use Rattle.codes.specs.Refusals.{read_of}
use Rattle.codes.specs.declared.refusal.Refusal.{Refusal}
use Rattle.store.specs.Store.{Store}
use Rattle.evaluation.specs.SettingBytes.{bytes_of}
use Rattle.example_walk.specs.Example.{settings, first_of, answers_as, example_of, left_setting}

-- as much of an answer: that it has a value, or its refusal
abbrev pub told : {A : Type 0} → Read A → Read Unit
told (value a) = value tt
told (refused n) = refused n

-- the setting that a walk leaves is the first
pub record WalkPromise (σ : Store) (root : ℤ) (wanted : Bool) (setting : Part (List ℕ)) : Type 0 where
  pub chosen : List Bool
  pub first : first_of (answers_as σ root wanted) (settings (length (old setting))) ≡ value chosen
  pub left : new setting ≡ bytes_of chosen

pub record ExamplePromise (σ : Store) (root : ℤ) (wanted : Bool) (setting work : Part (List ℕ)) (r : Result Unit Refusal) : Type 0 where
  -- 'the call gives the first setting with that answer'; 1, 3, 4, 41
  pub answer : read_of r ≡ told (example_of limits σ root wanted (length (old setting)))
  -- the setting, one byte 00 or 01 per level; zeros beyond, and on a refusal
  pub setting_left : new setting ≡ left_setting (length (old setting)) (example_of limits σ root wanted (length (old setting)))
  -- 'Scratch ends as zeros.'
  pub work_left : new work ≡ replicate (length (old work)) 0
