-- What an answer of the code stands for.
use Rattle.std.specs.Prelude.{ℕ, Result, Ok, Err}
use Rattle.codes.specs.Answer.{Step, got, fails}
use Rattle.codes.specs.Refusals.{number_of}
use Rattle.codes.specs.declared.refusal.Refusal.{Refusal}

-- a support position, which stands nowhere in the file
abbrev pub of_position : Result ℕ Refusal → Step ℕ
of_position (Ok p) = got p 0
of_position (Err r) = fails (number_of r)
