-- Which of document 01's numbers the words of a node line are refused with: those of its number, '31 not the expected node number', '32 a
-- missing blank'.
use mathlib.Core.Path.{◌≡◌, refl}
use mathlib.Core.Bool.{Bool}
use mathlib.Core.List.{List}
use mathlib.Core.Logic.{◌⊎◌, inl, inr, ⊎_elim}
use Prim.Native.Nat.{ℕ, ◌^◌}
use lib.ListN.{length}
use lib.Dec.{ltb, eqb}
use Rattle.codes.specs.Answer.{fails}
use Rattle.codes.proofs.Numbers.{StepRefuses, step-refuses, refuses-step, cond_step, then-step}
use Rattle.read_numbers.specs.Number.{first}
use Rattle.read_numbers.proofs.Refusals.{first-refuses}
use Rattle.line_words.specs.Words.{word_end, word_from, expected, numbered, after_extra, variable_word}

-- 14, 15, 31 or 32
abbrev WordNumber : ℕ → Type 0
WordNumber k = (k ≡ 14) ⊎ (k ≡ 15) ⊎ (k ≡ 31) ⊎ (k ≡ 32)

word-step : (s : List ℕ) (at : ℕ) → StepRefuses WordNumber (word_from s at)
unfolding word_from
word-step s at = cond_step WordNumber (ltb (word_end s at) (length s)) _ _ tt (inr (inr (inr refl)))

number_step : (n : ℕ) (s : List ℕ) → StepRefuses WordNumber (numbered n s)
unfolding numbered
number_step n s =
    then-step WordNumber (first (2 ^ 64) s) (expected n)
    (step-refuses WordNumber (first (2 ^ 64) s) (λ k e. ⊎_elim inl (λ z. inr (inl z)) (first-refuses (2 ^ 64) s k e)))
    (λ v at. cond_step WordNumber (eqb v n) _ _ tt (inr (inr (inl refl))))

extra-step : (extra : Bool) (s : List ℕ) (at : ℕ) → StepRefuses WordNumber (after_extra extra s at)
unfolding after_extra
extra-step extra s at = cond_step WordNumber extra _ _ (word-step s at) tt

variable-step : (extra : Bool) (n : ℕ) (s : List ℕ) → StepRefuses WordNumber (variable_word extra n s)
unfolding variable_word
variable-step extra n s =
    then-step WordNumber (numbered n s) _ (number_step n s)
    (λ _ at. then-step WordNumber (after_extra extra s at) _ (extra-step extra s at) (λ _ next. word-step s next))

-- The words up to the variable are refused with 14, 15, 31 or 32.
pub variable-word-refuses : (extra : Bool) (n : ℕ) (s : List ℕ) (k : ℕ) → variable_word extra n s ≡ fails k
    → (k ≡ 14) ⊎ (k ≡ 15) ⊎ (k ≡ 31) ⊎ (k ≡ 32)
variable-word-refuses extra n s k e = refuses-step WordNumber (variable-step extra n s) e
