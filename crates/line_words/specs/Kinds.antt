-- What callers lean on.
use Rattle.std.specs.Prelude.{ℕ, ◌≤◌, List, length, Result, Ok, Err}
use Rattle.codes.specs.declared.refusal.Refusal.{Refusal}

-- positions inside the line, in order
abbrev pub WordWithin : List ℕ → Result (ℕ × ℕ) Refusal → Type 0
WordWithin s (Ok (start, end)) = (start ≤ end) × (end ≤ length s)
WordWithin s (Err r) = Unit
