-- What the first setting is, with no word of how it is found.
use Rattle.std.specs.Prelude.{ℕ, ◌≡◌, Bool, true, false, List, ◌∷◌, length}

-- A setting comes before another: at the first level at which they differ it has no.
pub data Before : List Bool → List Bool → Type 0 where
  here : {s t : List Bool} → Before (false ∷ s) (true ∷ t)
  later : {b : Bool} {s t : List Bool} → Before s t → Before (b ∷ s) (b ∷ t)

-- Of the settings of n levels with a property s is the first: it has the property, and no setting before it does.
pub record IsFirst (p : List Bool → Bool) (n : ℕ) (s : List Bool) : Type 0 where
  pub long : length s ≡ n
  pub holds : p s ≡ true
  pub least : (t : List Bool) → length t ≡ n → Before t s → p t ≡ false

-- none of the settings of n levels has it
abbrev pub NoneIs : (List Bool → Bool) → ℕ → Type 0
NoneIs p n = (s : List Bool) → length s ≡ n → p s ≡ false
