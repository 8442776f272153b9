-- Which of document 01's numbers the numbers of a node line in binary are refused with: those of a 7-bit number, and '35 child 0 (binary)
-- or not below its node'.
use mathlib.Core.Path.{◌≡◌, refl}
use mathlib.Core.Bool.{◌||◌}
use mathlib.Core.List.{List}
use mathlib.Core.Logic.{◌⊎◌, inl, inr, ⊎_elim}
use Prim.Native.Nat.{ℕ}
use lib.Dec.{leb, eqb}
use Rattle.codes.specs.Answer.{fails}
use Rattle.codes.specs.declared.Code.{Code}
use Rattle.codes.specs.declared.Code.TheVariants.{Terminal, AbsoluteID, RelativeID, Relative1}
use Rattle.codes.proofs.Numbers.{StepRefuses, step-refuses, refuses-step, cond_step, then-step}
use Rattle.read_binary.specs.Binary.{number_at}
use Rattle.read_binary.proofs.Refusals.{seven-bit-refuses}
use Rattle.line_numbers.specs.Numbers.{id_at, below, child_at, variable_at}

-- 30, 37 or 38
abbrev SevenBit : ℕ → Type 0
SevenBit k = (k ≡ 30) ⊎ (k ≡ 37) ⊎ (k ≡ 38)

variable-step : (code : Code) (f : List ℕ) (at : ℕ) → StepRefuses SevenBit (variable_at code f at)
unfolding variable_at
variable-step Terminal f at = tt
variable-step AbsoluteID f at = step-refuses SevenBit (number_at f at) (seven-bit-refuses f at)
variable-step RelativeID f at = step-refuses SevenBit (number_at f at) (seven-bit-refuses f at)
variable-step Relative1 f at = tt

-- The number of a variable is refused with 30, 37 or 38,
pub variable-at-refuses : (code : Code) (f : List ℕ) (at k : ℕ) → variable_at code f at ≡ fails k → (k ≡ 30) ⊎ (k ≡ 37) ⊎ (k ≡ 38)
variable-at-refuses code f at k e = refuses-step SevenBit (variable-step code f at) e

-- 30, 35, 37 or 38
abbrev ChildNumber : ℕ → Type 0
ChildNumber k = (k ≡ 30) ⊎ (k ≡ 35) ⊎ (k ≡ 37) ⊎ (k ≡ 38)

number_step : (f : List ℕ) (at : ℕ) → StepRefuses ChildNumber (number_at f at)
number_step f at =
    step-refuses ChildNumber (number_at f at)
    (λ k e. ⊎_elim inl (⊎_elim (λ z. inr (inr (inl z))) (λ z. inr (inr (inr z)))) (seven-bit-refuses f at k e))

id-step : (code : Code) (n : ℕ) (f : List ℕ) (at : ℕ) → StepRefuses ChildNumber (id_at code n f at)
unfolding id_at
id-step Terminal n f at = tt
id-step AbsoluteID n f at = number_step f at
id-step RelativeID n f at = then-step ChildNumber (number_at f at) _ (number_step f at) (λ d next. tt)
id-step Relative1 n f at = tt

child-step : (code : Code) (n : ℕ) (f : List ℕ) (at : ℕ) → StepRefuses ChildNumber (child_at code n f at)
unfolding child_at
child-step code n f at =
    then-step ChildNumber (id_at code n f at) (below n) (id-step code n f at)
    (λ id next. cond_step ChildNumber (eqb id 0 || leb n id) _ _ (inr (inl refl)) tt)

-- a child with 30, 35, 37 or 38.
pub child-at-refuses : (code : Code) (n : ℕ) (f : List ℕ) (at k : ℕ) → child_at code n f at ≡ fails k → (k ≡ 30) ⊎ (k ≡ 35) ⊎ (k ≡ 37) ⊎ (k ≡ 38)
child-at-refuses code n f at k e = refuses-step ChildNumber (child-step code n f at) e
