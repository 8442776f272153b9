-- Laws of the numbers of a line's children.
use mathlib.Core.Path.{◌≡◌, ◌∙◌}
use mathlib.Core.List.{List}
use Prim.Native.Nat.{ℕ, ◌<◌}
use borrow.Author.Tests.{lt-leb, ne_eqb}
use Rattle.codes.specs.Answer.{Step, got, then}
use Rattle.codes.specs.declared.Code.{Code}
use Rattle.line_numbers.specs.Numbers.{id_at, below, child_at}
use Rattle.line_numbers.proofs.Steps.{then-then}

-- a line below line n
pub below-fits : (n id next : ℕ) → (id ≡ 0 → ⊥) → id < n → below n id next ≡ got id next
below-fits n id next z h = rw (ne_eqb id 0, lt-leb n id)

-- a child whose number is read after a step, and checked after that
pub child-after : (s : Step ℕ) (code : Code) (n : ℕ) (f : List ℕ) {c : Code} {i r : Step ℕ}
    → c ≡ code → i ≡ then s (λ _ at. id_at c n f at) → r ≡ then i (below n) → r ≡ then s (λ _ at. child_at code n f at)
unfolding child_at
child-after s code n f k p q = q ∙ rw (p, k) (then-then s (λ _ at. id_at code n f at) (below n))
