-- What a reader answers. Document 01, 'Forms to replace': 'each step's value with its next position, or its refusal'.
use Rattle.std.specs.Prelude.{ℕ}

-- a value, or the number of a refusal
pub data Read (A : Type 0) : Type 0 where
  value : A → Read A
  refused : ℕ → Read A

-- a value and the position after it, or the number of a refusal
pub data Step (A : Type 0) : Type 0 where
  got : A → ℕ → Step A
  fails : ℕ → Step A

-- one step after another: the first refusal decides
abbrev pub then : {A B : Type 0} → Step A → (A → ℕ → Step B) → Step B
then (got a next) k = k a next
then (fails n) k = fails n
