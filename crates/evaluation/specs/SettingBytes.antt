-- The settings that the call evaluate is lent, and those that the theorems speak of.
use Rattle.std.specs.Prelude.{ℕ, Bool, cond, List, map}

-- a no is 0, a yes 1, as in a setting: 'one byte 00 or 01 per level'
abbrev pub byte_of : Bool → ℕ
byte_of b = cond b 1 0

abbrev pub bytes_of : List Bool → List ℕ
bytes_of s = map byte_of s
