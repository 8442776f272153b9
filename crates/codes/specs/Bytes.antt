-- The classes of bytes that document 01 names.
use Rattle.std.specs.Prelude.{ℕ, Bool, ◌&&◌, ◌||◌, ltb, leb, eqb}

-- A blank. 'Header': 'The key runs to the first space or tab'.
unfoldable pub is_blank : ℕ → Bool
is_blank b = eqb b 32 || eqb b 9

-- a decimal digit
unfoldable pub is_digit : ℕ → Bool
is_digit b = leb 48 b && leb b 57

-- What goes at the end of a line. 'Header': 'trailing CR and LF go'.
unfoldable pub is_line_end : ℕ → Bool
is_line_end b = eqb b 10 || eqb b 13

-- 'Node lines': 'After `.end` only space, tab, LF, FF, CR'.
unfoldable pub is_whitespace : ℕ → Bool
is_whitespace b = is_blank b || is_line_end b || eqb b 12

-- Refusal 5: 'a control byte (00 to 1f, 7f)'.
unfoldable pub is_control : ℕ → Bool
is_control b = ltb b 0x20 || eqb b 0x7f
