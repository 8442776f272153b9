-- The value of a line whose words have a space before each: the words with a space between two.
use Rattle.std.specs.Prelude.{ℕ, false, cond, ◌≡◌, List, [], ◌∷◌, ◌++◌}
use Rattle.codes.specs.Bytes.{is_blank, is_line_end}
use Rattle.read_lines.specs.Each.{Each}
use Rattle.read_lines.specs.Spaced.{Text}
use Rattle.writers.specs.Words.{spaced}

unfoldable pub joined : List (List ℕ) → List ℕ
joined [] = []
joined (w ∷ ws) = w ++ spaced ws

-- bytes that may stand in a line
abbrev pub OnLine : List ℕ → Type 0
OnLine w = Each (λ b. is_line_end b ≡ false) w

-- a word of a line: some bytes, none of them a blank or a line end
pub record Plain (w : List ℕ) : Type 0 where
  pub text : Text w
  pub line : OnLine w

-- 'the value is trimmed of both': bytes without the blanks at their ends
unfoldable pub without_front : List ℕ → List ℕ
without_front [] = []
without_front (b ∷ bs) = cond (is_blank b) (without_front bs) (b ∷ bs)

-- a byte before what is left of the bytes after it, where that is all blank
abbrev pub kept : ℕ → List ℕ → List ℕ
kept b [] = cond (is_blank b) [] (b ∷ [])
kept b (c ∷ cs) = b ∷ c ∷ cs

unfoldable pub without_back : List ℕ → List ℕ
without_back [] = []
without_back (b ∷ bs) = kept b (without_back bs)

unfoldable pub trimmed : List ℕ → List ℕ
trimmed s = without_back (without_front s)
