-- Where the words of a value stand: the first where the value does, each further one after the one before it and a space.
use Rattle.std.specs.Prelude.{ℕ, ◌+◌, List, [], ◌∷◌, length}
use Rattle.read_lines.specs.Words.{Word, word}
use Rattle.read_text.specs.Text.{Place, place}

unfoldable pub words_at : ℕ → List (List ℕ) → List Word
words_at at [] = []
words_at at (w ∷ ws) = word at w ∷ words_at (at + length w + 1) ws

-- their places
unfoldable pub places_at : ℕ → List (List ℕ) → List Place
places_at at [] = []
places_at at (w ∷ ws) = place at (length w) ∷ places_at (at + length w + 1) ws
