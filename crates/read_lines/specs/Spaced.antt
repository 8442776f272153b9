-- What the words of a line are, with no word of how they are found. Document 01, 'Header': 'Lists skip runs of blanks.'
use Rattle.std.specs.Prelude.{◌≡◌, true, false, List, [], ◌∷◌, ◌++◌, ℕ, ◌+◌, length}
use Rattle.codes.specs.Bytes.{is_blank}
use Rattle.read_lines.specs.Words.{Word, word}
use Rattle.read_lines.specs.Each.{Each}

-- a run of blanks, which may be empty
abbrev pub Blanks : List ℕ → Type 0
Blanks b = Each (λ x. is_blank x ≡ true) b

-- no blank
abbrev pub Free : List ℕ → Type 0
Free w = Each (λ x. is_blank x ≡ false) w

-- the bytes of a word: at least one, and none is a blank
pub record Text (w : List ℕ) : Type 0 where
  pub some : w ≡ [] → ⊥
  pub free : Free w

-- A line whose first byte stands at a position has these words: before each stands a run of blanks, which is empty at most before the
-- first, and a run of blanks, which may be empty, stands after the last.
pub data Spaced : ℕ → List ℕ → List Word → Type 0 where
  blanks : {at : ℕ} {b : List ℕ} → Blanks b → Spaced at b []
  last : {at : ℕ} (b w : List ℕ) → Blanks b → Text w → Spaced at (b ++ w) (word (at + length b) w ∷ [])
  next : {at : ℕ} (b w : List ℕ) {x : ℕ} {s : List ℕ} {ws : List Word} → Blanks b → Text w → is_blank x ≡ true
      → Spaced (at + length b + length w) (x ∷ s) ws → Spaced at (b ++ (w ++ (x ∷ s))) (word (at + length b) w ∷ ws)
