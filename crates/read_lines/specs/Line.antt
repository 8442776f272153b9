-- Lines. Document 01, 'Header': 'A line ends at LF; trailing CR and LF go. The key runs to the first space or tab; the value is trimmed of both.'
use Rattle.std.specs.Prelude.{ℕ, zero, suc, ◌+◌, ◌-◌, ◌≤◌, ◌<◌, List, Bool, cond, not, length, get_or, ltb, eqb}
use Rattle.codes.specs.Bytes.{is_blank, is_line_end}
use Rattle.read_lines.specs.declared.Class.{Class}
use Rattle.read_lines.specs.declared.Class.TheVariants.{Feed, LineEnd, Blank, NonBlank}
use Rattle.read_lines.specs.declared.Line.{Line}
use Rattle.read_lines.specs.declared.Field.{Field}

-- the bytes of a class: LF; LF and CR; space and tab; all but space and tab
unfoldable pub is_of : Class → ℕ → Bool
is_of Feed x = eqb x 10
is_of LineEnd x = is_line_end x
is_of Blank x = is_blank x
is_of NonBlank x = not (is_blank x)

-- of the n positions from a on, the first whose byte has the property, or the position after them
unfoldable pub seek : (ℕ → Bool) → List ℕ → ℕ → ℕ → ℕ
seek p f a zero = a
seek p f a (suc n) = cond (p (get_or f a 0)) a (seek p f (a + 1) n)

-- of the n positions from a on, the end without the last ones whose bytes have the property
unfoldable pub trim : (ℕ → Bool) → List ℕ → ℕ → ℕ → ℕ
trim p f a zero = a
trim p f a (suc n) = cond (p (get_or f (a + n) 0)) (trim p f a n) (a + suc n)

-- 'A line ends at LF', or at the end of the file
unfoldable pub feed_at : List ℕ → ℕ → ℕ
feed_at f at = seek (is_of Feed) f at (length f - at)

-- the line at a position: its end, 'trailing CR and LF go', and the position where the next line starts
unfoldable pub line_of : List ℕ → ℕ → Line
line_of f at = record {
  end = trim (is_of LineEnd) f at (feed_at f at - at);
  next = cond (ltb (feed_at f at) (length f)) (feed_at f at + 1) (feed_at f at);
}

-- 'The key runs to the first space or tab'
unfoldable pub key_end : List ℕ → ℕ → ℕ → ℕ
key_end f at end = seek (is_of Blank) f at (end - at)

-- 'the value is trimmed of both'
unfoldable pub value_start : List ℕ → ℕ → ℕ → ℕ
value_start f at end = seek (is_of NonBlank) f (key_end f at end) (end - key_end f at end)

unfoldable pub value_end : List ℕ → ℕ → ℕ → ℕ
value_end f at end = trim (is_of Blank) f (value_start f at end) (end - value_start f at end)

-- the key and the value of the line from a position to its end
unfoldable pub field_of : List ℕ → ℕ → ℕ → Field
field_of f at end = record { key = key_end f at end; start = value_start f at end; end = value_end f at end }

-- what callers lean on: positions that stay inside, in order, and a next line that is further on
pub record LineWithin (f : List ℕ) (at : ℕ) (l : Line) : Type 0 where
  pub end_after : at ≤ l.end
  pub end_before : l.end ≤ l.next
  pub next_before : l.next ≤ length f
  pub next_after : at < length f → at < l.next

pub record FieldWithin (at end : ℕ) (d : Field) : Type 0 where
  pub key_after : at ≤ d.key
  pub key_before : d.key ≤ d.start
  pub start_before : d.start ≤ d.end
  pub end_before : d.end ≤ end
