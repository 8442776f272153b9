-- The head of a level, a then and an else: the code's sums are those of the definitions, each fits, and a head lies below the width.
use mathlib.Core.Path.{◌≡◌}
use mathlib.Core.Bool.{Bool, true, false, cond}
use Prim.Native.Nat.{ℕ, ◌+◌, ◌-◌, ◌*◌, ◌/◌, ◌%◌, ◌^◌, ◌≤◌, ◌<◌}
use native.Mathlib.Omega.{arith}
use native.Mathlib.Nat.{mod-lt, mul_comm, mul-le-mul, mul-lt-mul_of_pos_right, div-lt_iff_lt-mul}
use borrow.Author.Tests.{le-leb, lt-leb}
use lib.Dec.{leb}
use lib.IntN.{ℤ, nat_abs}
use Rattle.unique_table.specs.Index.{mix_of, head_entry}

-- the head, in a narrow index and in a wide one
pub head-narrow : (width l p : ℕ) (t e : ℤ) → p ≡ mix_of l t e → width ≤ 65536 → p * width / 2 ^ 30 ≡ head_entry width l t e
unfolding head_entry
head-narrow width l p t e q h = rw (q, le-leb width 65536 h)

pub head-wide : (width l p c : ℕ) (t e : ℤ) → p ≡ mix_of l t e → c ≡ nat_abs t + nat_abs e → 65536 < width
    → (2 * c + p / 2 ^ 20) % width ≡ head_entry width l t e
unfolding head_entry
head-wide width l p c t e q r h = rw (q, r, lt-leb width 65536 h)

-- the upper 30 bits of 32
pub upper-below : (m : ℕ) → m % 2 ^ 32 / 4 < 2 ^ 30
upper-below m = omega arith

-- a part of a width is below it
part-below : (p width : ℕ) → p < 2 ^ 30 → 1 ≤ width → p * width / 2 ^ 30 < width
part-below p width h w =
    let k : p * width < 2 ^ 30 * width = mul-lt-mul_of_pos_right h w in
    let z : 0 < 2 ^ 30 = omega arith in
    (div-lt_iff_lt-mul z).1 (rw (mul_comm width (2 ^ 30)) k)

pub mix-below : (l : ℕ) (t e : ℤ) → mix_of l t e < 2 ^ 30
unfolding mix_of
mix-below l t e = upper-below _

pub head-below : (width l : ℕ) (t e : ℤ) → 1 ≤ width → head_entry width l t e < width
unfolding head_entry
head-below width l t e w = go (leb width 65536)
  where
    go : (b : Bool) → cond b (mix_of l t e * width / 2 ^ 30) ((2 * (nat_abs t + nat_abs e) + mix_of l t e / 2 ^ 20) % width) < width
    go true = part-below _ width (mix-below l t e) w
    go false = mod-lt _ w

pub part-fits : (p width : ℕ) → p < 2 ^ 30 → width ≤ 2 ^ 34 → p * width < 2 ^ 64
part-fits p width h w =
    let k : p ≤ 2 ^ 30 - 1 = omega arith in
    let m : p * width ≤ (2 ^ 30 - 1) * 2 ^ 34 = mul-le-mul k w in
    omega arith

pub bit_below : (k : ℕ) → k % 2 < 2
bit_below k = omega arith
