-- What the lines of a header say, and where their values stand.
use Rattle.std.specs.Prelude.{ℕ, suc, ◌+◌, cond, List, [], ◌∷◌, eqb, length}
use Rattle.codes.specs.Bytes.{is_blank}
use Rattle.header_keys.specs.declared.Key.{Key}
use Rattle.header_keys.specs.Keys.{slot_of}
use Rattle.header_lines.specs.Sweep.{Span, span, Said, said}
use Rattle.writers.specs.Words.{spaced}
use Rattle.heading.specs.Lines.{HeaderLine, key_text, line_text}
use Rattle.reading_header.specs.Joined.{trimmed}

-- how many blanks stand first
unfoldable pub indent : List ℕ → ℕ
indent [] = 0
indent (b ∷ bs) = cond (is_blank b) (suc (indent bs)) 0

-- 'the value is trimmed of both': what stands after a line's key, trimmed
unfoldable pub line_value : HeaderLine → List ℕ
line_value l = trimmed (spaced l.words)

-- where it starts, in a line at a position
unfoldable pub start_at : ℕ → HeaderLine → ℕ
start_at at l = at + length (key_text l.key) + indent (spaced l.words)

-- where it stands
unfoldable pub span_of : ℕ → HeaderLine → Span
span_of at l = span (start_at at l) (start_at at l + length (line_value l))

-- what lines say, the first of which stands at a position
unfoldable pub said_from : ℕ → List HeaderLine → List Said
said_from at [] = []
said_from at (l ∷ ls) = said l.key (span_of at l) ∷ said_from (at + length (line_text l)) ls

-- 'A repeated key: the last counts': a key's last value, after lines whose last value is v
unfoldable pub last_line_value : List ℕ → Key → List HeaderLine → List ℕ
last_line_value v k [] = v
last_line_value v k (l ∷ ls) = last_line_value (cond (eqb (slot_of k) (slot_of l.key)) (line_value l) v) k ls
