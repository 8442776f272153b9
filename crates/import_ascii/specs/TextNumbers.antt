-- The numbers that a node line of text is refused with.
use Rattle.std.specs.Prelude.{ℕ, ◌≤◌, ◌⊎◌}

-- '14 a single number has a foreign character or no digit. 15 a number is too large .. 16 a list has a foreign character. 17 a second minus,
-- or a minus after a digit'; '30° ends early; 31 not the expected node number; 32 a missing blank, or not two children; 33 terminal described
-- by other than `T`; 34 variable out of range; 35 child .. not below its node; 36 level not above both children's'
abbrev pub TextNumber : ℕ → Type 0
TextNumber k = ((14 ≤ k) × (k ≤ 17)) ⊎ ((30 ≤ k) × (k ≤ 36))
