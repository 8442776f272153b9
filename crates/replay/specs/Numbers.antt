-- Numbers as stored cases hold them: so many bytes from a position on, lowest first.
use Rattle.std.specs.Prelude.{ℕ, ◌+◌, ◌*◌, List, get_or}

abbrev pub two_at : List ℕ → ℕ → ℕ
two_at s at = get_or s at 0 + 256 * get_or s (at + 1) 0

abbrev pub four_at : List ℕ → ℕ → ℕ
four_at s at = two_at s at + 65536 * two_at s (at + 2)

abbrev pub eight_at : List ℕ → ℕ → ℕ
eight_at s at = four_at s at + 4294967296 * four_at s (at + 4)
