-- Escaped bytes and 7-bit numbers, as an export writes them. Document 01, 'Node lines'.
use Rattle.std.specs.Prelude.{ℕ, zero, suc, ◌+◌, ◌*◌, ◌/◌, ◌%◌, List, [], ◌∷◌, ◌++◌, true, false, cond, ltb, eqb}

-- 'Bytes 00, 0a, 0d, 1a are written 00 00, 00 01, 00 02, 00 03.'
unfoldable pub escaped : ℕ → List ℕ
escaped b =
    cond (eqb b 0x00) (0x00 ∷ 0x00 ∷ [])
    (cond (eqb b 0x0a) (0x00 ∷ 0x01 ∷ [])
    (cond (eqb b 0x0d) (0x00 ∷ 0x02 ∷ [])
    (cond (eqb b 0x1a) (0x00 ∷ 0x03 ∷ [])
    (b ∷ []))))

unfoldable pub escaped_all : List ℕ → List ℕ
escaped_all [] = []
escaped_all (b ∷ bs) = escaped b ++ escaped_all bs

-- '7-bit groups, highest first, in bits 7-1; bit 0 means more': the groups of a number, at most k and one more; the last has `more` in bit 0
unfoldable pub groups_by : ℕ → ℕ → ℕ → List ℕ
groups_by zero more n = (n * 2 + more) ∷ []
groups_by (suc k) more n =
    elim (ltb n 128) [ true ↦ (n * 2 + more) ∷ [] | false ↦ groups_by k 1 (n / 128) ++ (((n % 128) * 2 + more) ∷ []) ]

-- a number of 64 bits: it has at most ten groups
unfoldable pub groups : ℕ → List ℕ
groups n = groups_by 9 0 n

-- a number as its bytes
unfoldable pub seven_bit : ℕ → List ℕ
seven_bit n = escaped_all (groups n)
