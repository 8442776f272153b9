-- Escaped bytes and 7-bit numbers. Document 01, 'Node lines'.
use Rattle.std.specs.Prelude.{ℕ, zero, suc, ◌+◌, ◌*◌, ◌/◌, ◌%◌, ◌^◌, List, cond, length, get_or, ltb, eqb}
use Rattle.codes.specs.Answer.{Step, got, fails, then}

-- 'Bytes 00, 0a, 0d, 1a are written 00 00, 00 01, 00 02, 00 03': what the byte after a 00 stands for; '37 bad escape'
unfoldable pub meant : ℕ → ℕ → Step ℕ
meant x next =
    cond (eqb x 0) (got 0x00 next)
    (cond (eqb x 1) (got 0x0a next)
    (cond (eqb x 2) (got 0x0d next)
    (cond (eqb x 3) (got 0x1a next)
    (fails 37))))

-- the byte at a position, escaped or as it is; '30 ends early'
unfoldable pub byte_at : List ℕ → ℕ → Step ℕ
byte_at f at =
    cond (ltb at (length f))
    (cond (eqb (get_or f at 0) 0)
    (cond (ltb (at + 1) (length f)) (meant (get_or f (at + 1) 0) (at + 2)) (fails 30))
    (got (get_or f at 0) (at + 1)))
    (fails 30)

-- 'Numbers are 7-bit groups, highest first, in bits 7-1; bit 0 means more. 38 comes at the group that passes 64 bits.'
-- The value v stands for the groups before this one.
abbrev pub grouped : ℕ → ℕ → ℕ → (ℕ → ℕ → Step ℕ) → Step ℕ
grouped v b next more =
    cond (ltb (v * 128 + b / 2) (2 ^ 64))
    (cond (eqb (b % 2) 0) (got (v * 128 + b / 2) next) (more (v * 128 + b / 2) next))
    (fails 38)

-- A group takes a byte or two of the file, so there are no more groups than bytes: the first argument counts them.
unfoldable pub groups_from : ℕ → List ℕ → ℕ → ℕ → Step ℕ
groups_from zero f v at = fails 30
groups_from (suc n) f v at = then (byte_at f at) (λ b next. grouped v b next (λ w m. groups_from n f w m))

unfoldable pub number_at : List ℕ → ℕ → Step ℕ
number_at f at = groups_from (length f) f 0 at
