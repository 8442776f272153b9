-- Laws of steps, one after another.
use mathlib.Core.Path.{◌≡◌, refl, ap}
use Prim.Native.Nat.{ℕ}
use Rattle.codes.specs.Answer.{Step, got, fails, then}

-- of three steps the first two may be taken together, or the last two
pub then-then : {A B C : Type 0} (s : Step A) (f : A → ℕ → Step B) (g : B → ℕ → Step C) → then (then s f) g ≡ then s (λ a at. then (f a at) g)
then-then (got a at) f g = refl
then-then (fails k) f g = refl

-- a refusal passes on
pub refusal-on : {A B : Type 0} {s : Step A} {k : ℕ} (f : A → ℕ → Step B) → fails k ≡ s → fails k ≡ then s f
refusal-on f q = ap (λ s. then s f) q

-- two ways to go on after a step refuse alike, where the second has each refusal of the first
pub refusal-kept : {A B C : Type 0} {k : ℕ} (s : Step A) (f : A → ℕ → Step B) (g : A → ℕ → Step C)
    → ((a : A) (at : ℕ) → fails k ≡ f a at → fails k ≡ g a at) → fails k ≡ then s f → fails k ≡ then s g
refusal-kept (got a at) f g h q = h a at q
refusal-kept (fails j) f g h q = refusal-on g (ap (λ s. then s (λ _ _. fails 0)) q)
