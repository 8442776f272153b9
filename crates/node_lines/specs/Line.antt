-- A node line, and what is judged alike in both modes. Document 01, 'Node lines'.
use Rattle.std.specs.Prelude.{ℕ, zero, suc, ◌-◌, List, Bool, true, cond, get_or, ℤ, nat_abs, ltb, leb}

-- a terminal line; or a support position, then and else, which are numbers of lines with their signs
pub data Line : Type 0 where
  terminal : Line
  inner : ℕ → ℤ → ℤ → Line

-- the seat of a line: its support position, counted from 1, and 0 of a terminal line
abbrev pub seat_of_line : Line → ℕ
seat_of_line terminal = 0
seat_of_line (inner p t e) = suc p

-- 'The level of a line is that of its own variable': whether a line of this seat lies deeper than a level. A terminal is 'deeper than
-- every level'.
abbrev pub seat_deeper : List ℕ → ℕ → ℕ → Bool
seat_deeper levels l zero = true
seat_deeper levels l (suc p) = ltb l (get_or levels p 0)

-- the same of a line's number, by the seats of the lines so far; numbers count from 1
unfoldable pub deeper : List ℕ → List ℕ → ℕ → ℕ → Bool
deeper levels seats l n = seat_deeper levels l (get_or seats (n - 1) 0)

-- '35 child .. not below its node; 36 level not above both children's': the fault of a child of line n, 0 of none
unfoldable pub child_fault : List ℕ → List ℕ → ℕ → ℕ → ℤ → ℕ
child_fault levels seats n l c = cond (leb n (nat_abs c)) 35 (cond (deeper levels seats l (nat_abs c)) 0 36)
