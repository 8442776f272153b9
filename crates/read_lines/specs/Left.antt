-- The words that are left of a line, as the code goes over them.
use Rattle.std.specs.Prelude.{ℕ, List}
use denote.Ref.{Bor}
use Rattle.read_lines.specs.Words.{Word, word, words}
use Rattle.read_lines.specs.declared.split.Words.{Words}

-- a word by its position and its bytes
abbrev pub word_at : ℕ × Bor (List ℕ) → Word
word_at (at, b) = word at b.now

abbrev pub words_left : Words → List Word
words_left w = words w.at w.rest.now
