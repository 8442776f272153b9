-- What the lowest level is, with no word of how it is found.
use Rattle.std.specs.Prelude.{ℕ, ◌<◌, ◌≡◌, Bool, true, false}

-- Of the levels below n with a property l is the lowest: it has the property, and no lower level does.
pub record IsLowest (p : ℕ → Bool) (n l : ℕ) : Type 0 where
  pub low : l < n
  pub holds : p l ≡ true
  pub least : (k : ℕ) → k < l → p k ≡ false

-- none of the levels below n has it
abbrev pub NoneBelow : (ℕ → Bool) → ℕ → Type 0
NoneBelow p n = (k : ℕ) → k < n → p k ≡ false
