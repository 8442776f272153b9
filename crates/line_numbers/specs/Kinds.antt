-- What callers lean on.
use Rattle.std.specs.Prelude.{ℕ, ◌≤◌, ◌<◌, Result, Ok, Err}
use Rattle.codes.specs.declared.refusal.Refusal.{Refusal}

-- the number of a line below line n
abbrev pub ReadBelow : ℕ → Result (ℕ × ℕ) Refusal → Type 0
ReadBelow n (Ok (v, next)) = (1 ≤ v) × (v < n)
ReadBelow n (Err r) = Unit
