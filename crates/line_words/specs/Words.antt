-- The words of a node line of text. Document 01, 'Node lines': 'Text: number, extra word unless varinfo is 4, variable, ..'
use Rattle.std.specs.Prelude.{ℕ, ◌-◌, ◌^◌, List, Bool, cond, length, ltb, eqb}
use Rattle.codes.specs.Answer.{Step, got, fails, then}
use Rattle.read_lines.specs.Line.{is_of, seek}
use Rattle.read_numbers.specs.Number.{first}
use Rattle.read_lines.specs.declared.Class.TheVariants.{Blank, NonBlank}

-- the word from a position of a line on: where it starts, and where it ends
abbrev pub word_start : List ℕ → ℕ → ℕ
word_start s at = seek (is_of NonBlank) s at (length s - at)

abbrev pub word_end : List ℕ → ℕ → ℕ
word_end s at = seek (is_of Blank) s (word_start s at) (length s - word_start s at)

-- '32 a missing blank': the start of the word and its end, where a blank must stand
unfoldable pub word_from : List ℕ → ℕ → Step ℕ
word_from s at = cond (ltb (word_end s at) (length s)) (got (word_start s at) (word_end s at)) (fails 32)

-- the line's number is the one expected: '31 not the expected node number'
abbrev pub expected : ℕ → ℕ → ℕ → Step ℕ
expected n v at = cond (eqb v n) (got at at) (fails 31)

unfoldable pub numbered : ℕ → List ℕ → Step ℕ
numbered n s = then (first (2 ^ 64) s) (expected n)

-- 'extra word unless varinfo is 4'
unfoldable pub after_extra : Bool → List ℕ → ℕ → Step ℕ
after_extra extra s at = cond extra (word_from s at) (got at at)

-- where the variable word starts, and where it ends
unfoldable pub variable_word : Bool → ℕ → List ℕ → Step ℕ
variable_word extra n s = then (numbered n s) (λ _ at. then (after_extra extra s at) (λ _ next. word_from s next))
