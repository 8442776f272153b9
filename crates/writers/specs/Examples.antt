-- Numbers and edges by the bytes that they are written as, in one table: the starred cases of document 01, 'Tried by hand', that concern
-- numbers of binary files, and cases at the ends of their ranges; proofs/Examples.antt proves every row.
use Rattle.std.specs.Prelude.{ℕ, ◌-◌, ◌^◌, ◌≡◌, List, [], ◌∷◌, ◌++◌, replicate, ℤ, pos, neg_ℤ}
use Rattle.writers.specs.Decimal.{decimal, edge_text}
use Rattle.writers.specs.Binary.{seven_bit}

-- a row: a number in 7-bit groups, a number in decimal digits, or an edge, and its bytes
pub data WriterRow : Type 0 where
  binary : ℕ → List ℕ → WriterRow
  digits : ℕ → List ℕ → WriterRow
  edge : ℤ → List ℕ → WriterRow

abbrev pub Holds : WriterRow → Type 0
Holds (binary n w) = seven_bit n ≡ w
Holds (digits n w) = decimal n ≡ w
Holds (edge e w) = edge_text e ≡ w

abbrev pub AllWritten : List WriterRow → Type 0
AllWritten [] = Unit
AllWritten (r ∷ rs) = Holds r × AllWritten rs

abbrev pub rows : List WriterRow
rows =
    -- starred: 5: 00 01
    binary 5 (0x00 ∷ 0x01 ∷ [])
    -- starred: 127: fe
    ∷ binary 127 (0xfe ∷ [])
    -- starred: 128: 03 00 00
    ∷ binary 128 (0x03 ∷ 0x00 ∷ 0x00 ∷ [])
    -- starred: 768: 00 02 00 00
    ∷ binary 768 (0x00 ∷ 0x02 ∷ 0x00 ∷ 0x00 ∷ [])
    -- 13: 00 03
    ∷ binary 13 (0x00 ∷ 0x03 ∷ [])
    -- the least and the largest
    ∷ binary 0 (0x00 ∷ 0x00 ∷ [])
    ∷ binary (2 ^ 64 - 1) (0x03 ∷ (replicate 8 0xff ++ (0xfe ∷ [])))
    -- '0', '9', '10', '18446744073709551615'
    ∷ digits 0 (48 ∷ [])
    ∷ digits 9 (57 ∷ [])
    ∷ digits 10 (49 ∷ 48 ∷ [])
    ∷ digits (2 ^ 64 - 1) (49 ∷ 56 ∷ 52 ∷ 52 ∷ 54 ∷ 55 ∷ 52 ∷ 52 ∷ 48 ∷ 55 ∷ 51 ∷ 55 ∷ 48 ∷ 57 ∷ 53 ∷ 53 ∷ 49 ∷ 54 ∷ 49 ∷ 53 ∷ [])
    -- '1', '-1', '-30', '32767'
    ∷ edge (pos 1) (49 ∷ [])
    ∷ edge (neg_ℤ (pos 1)) (45 ∷ 49 ∷ [])
    ∷ edge (neg_ℤ (pos 30)) (45 ∷ 51 ∷ 48 ∷ [])
    ∷ edge (pos 32767) (51 ∷ 50 ∷ 55 ∷ 54 ∷ 55 ∷ [])
    ∷ []
