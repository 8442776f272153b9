-- How long node lines are: 32 bytes at most. Document 01, 'Export': the export size has 32 bytes for each node.
use mathlib.Core.Path.{◌≡◌}
use mathlib.Core.Bool.{Bool, true, false, cond}
use mathlib.Core.List.{List, [], ◌∷◌, map}
use Prim.Native.Nat.{ℕ, zero, suc, ◌+◌, ◌-◌, ◌*◌, ◌^◌, ◌≤◌, ◌<◌}
use native.Mathlib.Omega.{arith}
use native.Mathlib.Nat.{add-zero}
use native.Mathlib.Decide.{dec_lt}
use lib.ListN.{length, get_or, length-append, get_or-map, get_or-eq_default}
use lib.IntN.{ℤ, nat_abs}
use lib.Dec.{ltb}
use Rattle.codes.specs.Limits.{var_limit}
use Rattle.codes.specs.declared.Code.{Code}
use Rattle.codes.specs.declared.Code.TheVariants.{Terminal, AbsoluteID, RelativeID, Relative1}
use Rattle.edges.specs.Edge.{minus}
use Rattle.node_lines.specs.Line.{Line, terminal, inner, seat_of_line}
use Rattle.writers.proofs.Decimal.{decimal-short, edge-short}
use Rattle.writers.proofs.Escaped.{escaped-short}
use Rattle.writers.proofs.SevenBit.{seven-bit-short}
use Rattle.node_writers.specs.Encoded.{text_bytes, code_byte, number_for, child_code, smaller, variable_code, inner_bytes, bin_bytes, encode_from, line_bytes, node_bytes}
use Rattle.node_writers.proofs.LineBytes.{length-terminal, length-text}

-- a line whose position is within the limit, and whose numbers have seven digits at most
abbrev pub Small : Line → Type 0
Small terminal = Unit
Small (inner p t e) = (p < var_limit) × (nat_abs t < 10 ^ 7) × (nat_abs e < 10 ^ 7)

-- A line of text has at most seven digits for its number and each child's, and four for its position.
text-short : (n : ℕ) (l : Line) → n < 10 ^ 7 → Small l → length (text_bytes n l) ≤ 32
text-short n terminal h s = omega (arith, length-terminal n, decimal-short n 7 (omega arith) (omega arith))
text-short n (inner p t e) h s =
    omega (
      arith,
      length-text n p t e,
      decimal-short n 7 (omega arith) (omega arith),
      decimal-short p 4 (omega arith) (omega arith),
      edge-short 7 t (omega arith) (omega arith),
      edge-short 7 e (omega arith) (omega arith),
    )

-- A binary line has two bytes at most for its codes, and as many for each group of a number.
number_short : (code : Code) (absolute distance k : ℕ) → absolute < 128 ^ k → distance < 128 ^ k → 1 ≤ k → length (number_for code absolute distance) ≤ 2 * k
number_short Terminal absolute distance k a d s = omega arith
number_short AbsoluteID absolute distance k a d s = seven-bit-short absolute k a s
number_short RelativeID absolute distance k a d s = seven-bit-short distance k d s
number_short Relative1 absolute distance k a d s = omega arith

inner-short : (n p : ℕ) (t e : ℤ) (seat : ℕ) → n < 10 ^ 7 → Small (inner p t e) → seat ≤ var_limit → length (inner_bytes n p t e seat) ≤ 32
unfolding inner_bytes
inner-short n p t e seat h s l =
    let variable = variable_code p seat in
    let then = child_code n (nat_abs t) in
    let els = child_code n (nat_abs e) in
    simp length-append
    (omega (
      arith,
      escaped-short (code_byte variable then (minus e) els),
      number_short variable p (seat - 1 - p) 2 (omega arith) (omega arith) (omega arith),
      number_short then (nat_abs t) (n - nat_abs t) 4 (omega arith) (omega arith) (omega arith),
      number_short els (nat_abs e) (n - nat_abs e) 4 (omega arith) (omega arith) (omega arith),
    ))

-- of two seats the smaller is one of them
smaller-most : (t e m : ℕ) → t ≤ m → e ≤ m → smaller t e ≤ m
smaller-most zero e m h k = k
smaller-most (suc t) zero m h k = h
smaller-most (suc t) (suc e) m h k = go (ltb t e)
  where
    go : (b : Bool) → cond b (suc t) (suc e) ≤ m
    go true = h
    go false = k

-- A line of either mode.
pub line-short : (ascii : Bool) (seats : List ℕ) (n : ℕ) (l : Line) → ((i : ℕ) → get_or seats i 0 ≤ var_limit) → n < 10 ^ 7 → Small l
    → length (line_bytes ascii seats n l) ≤ 32
unfolding bin_bytes
line-short true seats n l low h s = text-short n l h s
line-short false seats n terminal low h s = omega (arith, escaped-short (code_byte Terminal Terminal false Terminal))
line-short false seats n (inner p t e) low h s =
    inner-short n p t e (smaller (get_or seats (nat_abs t - 1) 0) (get_or seats (nat_abs e - 1) 0)) h s
    (smaller-most (get_or seats (nat_abs t - 1) 0) (get_or seats (nat_abs e - 1) 0) var_limit (low (nat_abs t - 1)) (low (nat_abs e - 1)))

-- Lines one after another.
encode-short : (write : ℕ → Line → List ℕ) (n : ℕ) (ls : List Line) → ((i : ℕ) → i < length ls → length (write (n + i) (get_or ls i terminal)) ≤ 32)
    → length (encode_from write n ls) ≤ 32 * length ls
unfolding encode_from
encode-short write n [] h = omega arith
encode-short write n (l ∷ ls) h =
    let first : length (write n l) ≤ 32 = rw (add-zero n) at (h 0 (omega arith)) in
    let rest = encode-short write (n + 1) ls (λ i k. let e : n + 1 + i ≡ n + suc i = omega arith in rw e (h (suc i) (omega arith))) in
    omega (arith, length-append (write n l) (encode_from write (n + 1) ls))

-- All lines of a file.
pub nodes-short : (ascii : Bool) (ls : List Line) → length ls < 10 ^ 7 → ((i : ℕ) → i < length ls → Small (get_or ls i terminal))
    → length (node_bytes ascii ls) ≤ 32 * length ls
unfolding node_bytes
nodes-short ascii ls few small = encode-short (line_bytes ascii (map seat_of_line ls)) 1 ls (λ i h. line-short ascii (map seat_of_line ls) (1 + i) (get_or ls i terminal) low (omega arith) (small i h))
  where
    seat-low : (l : Line) → Small l → seat_of_line l ≤ var_limit
    seat-low terminal s = omega arith
    seat-low (inner p t e) s = omega arith

    low : (i : ℕ) → get_or (map seat_of_line ls) i 0 ≤ var_limit
    low i = rw (get_or-map seat_of_line ls i terminal) (go (dec_lt i (length ls)))
      where
        go : Dec (i < length ls) → seat_of_line (get_or ls i terminal) ≤ var_limit
        go (yes h) = seat-low (get_or ls i terminal) (small i h)
        go (no f) = let e = get_or-eq_default ls terminal {n = i} (omega (arith, f)) in rw e (omega arith)
