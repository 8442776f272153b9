-- The words of a line. Document 01, 'Header': 'Lists skip runs of blanks.'
use Rattle.std.specs.Prelude.{ℕ, ◌+◌, ◌-◌, List, [], ◌∷◌, ◌++◌, true, false, length}
use Rattle.codes.specs.Bytes.{is_blank}

-- a word: the position of its first byte, and its bytes
pub record Word : Type 0 where
  pub start : ℕ
  pub bytes : List ℕ

abbrev pub word : ℕ → List ℕ → Word
word at w = record { start = at; bytes = w }

-- before a blank or the end at a position: the word that ends there, if there is one, and then the later words
abbrev pub ended_word : ℕ → List ℕ → List Word → List Word
ended_word at [] ws = ws
ended_word at (b ∷ bs) ws = word (at - length (b ∷ bs)) (b ∷ bs) ∷ ws

-- the words from a position on, where the bytes w of a word stand just before it
unfoldable pub words_from : ℕ → List ℕ → List ℕ → List Word
words_from at w [] = ended_word at w []
words_from at w (x ∷ s) =
    elim (is_blank x) [
      | true ↦ ended_word at w (words_from (at + 1) [] s)
      | false ↦ words_from (at + 1) (w ++ (x ∷ [])) s
    ]

-- The words of s, whose first byte stands at a position: the longest runs of bytes that are no blanks.
unfoldable pub words : ℕ → List ℕ → List Word
words at s = words_from at [] s
