-- The calls that are made on a store.
use Rattle.std.specs.Prelude.{ℕ, Bool, List, ℤ}
use Rattle.codes.specs.Answer.{Read}
use Rattle.codes.specs.Limits.{Limits}
use Rattle.store.specs.Store.{Store}
use Rattle.evaluation.specs.Evaluation.{evaluation}
use Rattle.exported.specs.Export.{Export}
use Rattle.joined.specs.declared.Op.{Op}
use Rattle.calls.specs.Load.{Load}

-- 'Its calls are those that the firmware or a program makes', each with everything that it is lent; of an output its length
pub data Call : Type 0 where
  load : Load → Call
  evaluate : ℤ → List ℕ → Call
  example : ℤ → Bool → ℕ → Call
  tip : ℤ → List ℕ → Call
  export : Export → Call
  join : Op → ℤ → ℤ → Call
  opposite : ℤ → Call

-- what an evaluation answers: 'Evaluation gives 3, 4'
abbrev pub evaluate_of : Limits → ℤ → List ℕ → Store → Read Bool
evaluate_of m e s σ = evaluation m σ e s
