-- The numbers that a node line in binary is refused with.
use Rattle.std.specs.Prelude.{◌≡◌, ℕ, ◌≤◌, ◌⊎◌}

-- '30° ends early'; '34 variable out of range; 35 child 0 (binary) or not below its node; 36 level not above both children's; 37 bad escape;
-- 38 (added) binary number over 64 bits'
abbrev pub BinaryNumber : ℕ → Type 0
BinaryNumber k = (k ≡ 30) ⊎ ((34 ≤ k) × (k ≤ 38))
