-- Numbers that don't stand in a list, and how many of them are below a number.
use Rattle.std.specs.Prelude.{◌≡◌, ℕ, zero, suc, ◌<◌, List, length, get_or}
use Rattle.seats.specs.Seats.{seat_of}

-- a number is no entry of a list: a variable 'outside the support', a level that is free
abbrev pub Outside : ℕ → List ℕ → Type 0
Outside x l = (i : ℕ) → i < length l → get_or l i 0 ≡ x → ⊥

-- How many of the numbers below n stand not in a list. A number outside it below which there are k such is the k-th outside it, counted from 0.
unfoldable pub outside_below : ℕ → List ℕ → ℕ
outside_below zero l = 0
outside_below (suc n) l = elim (seat_of n l) [ zero ↦ suc (outside_below n l) | suc i ↦ outside_below n l ]
