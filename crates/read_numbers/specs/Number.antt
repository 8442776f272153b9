-- Numbers in decimal digits.
use Rattle.std.specs.Prelude.{ℕ, ◌+◌, ◌-◌, ◌*◌, List, [], ◌∷◌, cond, length, eqb, ltb}
use Rattle.codes.specs.Machine.{Next, go, stop, run}
use Rattle.codes.specs.Answer.{Read, value, refused, Step, got, fails}
use Rattle.codes.specs.Bytes.{is_digit}
use Rattle.read_lines.specs.Words.{Word, words}
use Rattle.read_numbers.specs.declared.Role.{Role}
use Rattle.read_numbers.specs.declared.Role.TheVariants.{Single, Entry, Magnitude}

-- The refusal of a byte that is no digit: '14 a single number has a foreign character .. 16 a list has a foreign character. 17 a second
-- minus, or a minus after a digit.' A minus has a number of its own where a number may have a sign.
abbrev pub foreign : Role → ℕ → ℕ
foreign Single x = 14
foreign Entry x = 16
foreign Magnitude x = cond (eqb x 45) 17 16

-- One more byte after digits of value v, below the limit: the first offending byte decides. '15 a number is too large'.
unfoldable pub digit : Role → ℕ → ℕ → ℕ → Next ℕ (Read ℕ)
digit role lim v x =
    cond (is_digit x)
    (cond (ltb (v * 10 + (x - 48)) lim) (go (v * 10 + (x - 48))) (stop (refused 15)))
    (stop (refused (foreign role x)))

-- the value of digits, judged from left to right
unfoldable pub number : Role → ℕ → List ℕ → Read ℕ
number role lim s = run (digit role lim) value 0 s

-- A single number. '14 a single number has a foreign character or no digit.'
unfoldable pub single : ℕ → List ℕ → Read ℕ
single lim [] = refused 14
single lim (x ∷ s) = number Single lim (x ∷ s)

-- a number, and the position after its word
abbrev pub ends_at : ℕ → Read ℕ → Step ℕ
ends_at next (value v) = got v next
ends_at next (refused n) = fails n

abbrev pub first_of : ℕ → List Word → Step ℕ
first_of lim [] = fails 14
first_of lim (w ∷ ws) = ends_at (w.start + length w.bytes) (single lim w.bytes)

-- The first number of a text node line, and where what is left after it starts: the line's first word is a single number.
unfoldable pub first : ℕ → List ℕ → Step ℕ
first lim s = first_of lim (words 0 s)
