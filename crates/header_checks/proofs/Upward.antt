-- Laws of the numbers i, i + 1, ..
use mathlib.Core.Path.{◌≡◌, refl, ap, ◌∙◌}
use Prim.Native.Nat.{ℕ, zero, suc, ◌+◌, ◌<◌}
use native.Mathlib.Omega.{arith}
use lib.ListN.{length, get_or}
use Rattle.header_checks.specs.Names.{up_from}

-- there are as many as were asked for
pub length_up : (n i : ℕ) → length (up_from n i) ≡ n
unfolding up_from
length_up zero i = refl
length_up (suc n) i = ap suc (length_up n (i + 1))

-- the one at a position
up_at : (n i k : ℕ) → k < n → get_or (up_from n i) k 0 ≡ i + k
unfolding up_from
up_at zero i k h = absurd (omega arith)
up_at (suc n) i zero h = omega arith
up_at (suc n) i (suc k) h = up_at n (i + 1) k (omega arith) ∙ omega arith

-- counted from 0 it is that position
pub up-entry : (n k : ℕ) → k < n → get_or (up_from n 0) k 0 ≡ k
up-entry n k h = up_at n 0 k h ∙ omega arith
