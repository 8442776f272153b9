-- Numbers in decimal digits, as an export writes them.
use Rattle.std.specs.Prelude.{ℕ, zero, suc, ◌+◌, ◌/◌, ◌%◌, List, [], ◌∷◌, ◌++◌, true, false, cond, ltb, ℤ, nat_abs}
use Rattle.edges.specs.Edge.{minus}

-- the digits of a number, highest first, at most k and one more
unfoldable pub digits : ℕ → ℕ → List ℕ
digits zero n = (48 + n) ∷ []
digits (suc k) n = elim (ltb n 10) [ true ↦ (48 + n) ∷ [] | false ↦ digits k (n / 10) ++ ((48 + n % 10) ∷ []) ]

-- a number of 64 bits: it has at most twenty digits
unfoldable pub decimal : ℕ → List ℕ
decimal n = digits 19 n

-- an edge: a minus, where it has one, and its magnitude
unfoldable pub edge_text : ℤ → List ℕ
edge_text e = cond (minus e) (0x2d ∷ decimal (nat_abs e)) (decimal (nat_abs e))
