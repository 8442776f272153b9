-- What is read into a type stands for: the value of what is there, or the number of the refusal.
use Rattle.std.specs.Prelude.{ℕ, Result, Ok, Err}
use Rattle.codes.specs.Answer.{Read, value, refused, Step, got, fails}
use Rattle.codes.specs.Refusals.{number_of}
use Rattle.codes.specs.declared.refusal.Refusal.{Refusal}

abbrev pub number_in : {A : Type 0} → (A → ℕ) → Result A Refusal → Read ℕ
number_in f (Ok a) = value (f a)
number_in f (Err r) = refused (number_of r)

abbrev pub first_in : {A : Type 0} → (A → ℕ) → Result (A × ℕ) Refusal → Step ℕ
first_in f (Ok (a, next)) = got (f a) next
first_in f (Err r) = fails (number_of r)
