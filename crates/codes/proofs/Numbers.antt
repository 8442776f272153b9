-- Which numbers an answer is refused with: a property of every refusal that it can have.
use mathlib.Core.Path.{◌≡◌, refl, subst}
use mathlib.Core.Bool.{Bool, true, false, cond}
use Prim.Native.Nat.{ℕ}
use Rattle.codes.specs.Answer.{Read, value, refused, Step, got, fails, then}

module _ (P : ℕ → Type 0) {A : Type 0} where
  -- a refusal of an answer has the property
  abbrev pub ReadRefuses : Read A → Type 0
  ReadRefuses (value a) = Unit
  ReadRefuses (refused n) = P n

  -- so has one of a step
  abbrev pub StepRefuses : Step A → Type 0
  StepRefuses (got a next) = Unit
  StepRefuses (fails n) = P n

  -- what a law about each refusal says
  pub read-refuses : (r : Read A) → ((n : ℕ) → r ≡ refused n → P n) → ReadRefuses r
  read-refuses (value a) h = tt
  read-refuses (refused n) h = h n refl

  pub step-refuses : (s : Step A) → ((n : ℕ) → s ≡ fails n → P n) → StepRefuses s
  step-refuses (got a next) h = tt
  step-refuses (fails n) h = h n refl

  -- and the other way
  pub refuses-step : {s : Step A} {n : ℕ} → StepRefuses s → s ≡ fails n → P n
  refuses-step h e = subst StepRefuses e h

  -- one answer or another
  pub cond-read : (b : Bool) (r s : Read A) → ReadRefuses r → ReadRefuses s → ReadRefuses (cond b r s)
  cond-read true r s h k = h
  cond-read false r s h k = k

  pub cond_step : (b : Bool) (r s : Step A) → StepRefuses r → StepRefuses s → StepRefuses (cond b r s)
  cond_step true r s h k = h
  cond_step false r s h k = k

-- one step after another
pub then-step : (P : ℕ → Type 0) {A B : Type 0} (s : Step A) (k : A → ℕ → Step B) → StepRefuses P s → ((a : A) (next : ℕ) → StepRefuses P (k a next))
    → StepRefuses P (then s k)
then-step P (got a next) k h f = f a next
then-step P (fails n) k h f = h
