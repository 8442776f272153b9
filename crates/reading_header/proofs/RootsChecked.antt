-- The roots of an export pass the header's check.
use mathlib.Core.Path.{◌≡◌, refl}
use mathlib.Core.List.{List, [], ◌∷◌}
use Prim.Native.Nat.{ℕ, suc, ◌≤◌, ◌<◌}
use native.Mathlib.Omega.{arith}
use lib.IntN.{ℤ, pos, nat_abs}
use lib.ListN.{length, get_or}
use borrow.Author.Tests.{ne_eqb, le-ltb}
use Rattle.file_roots.specs.Roots.{roots_fault}

-- 'per root 25 zero, 26 magnitude above `.nnodes`': none of both
pub roots-pass : (nnodes : ℕ) (rs : List ℤ)
    → ((i : ℕ) → i < length rs → 1 ≤ nat_abs (get_or rs i (pos 0)))
    → ((i : ℕ) → i < length rs → nat_abs (get_or rs i (pos 0)) ≤ nnodes)
    → roots_fault nnodes rs ≡ 0
unfolding roots_fault
roots-pass nnodes [] some low = refl
roots-pass nnodes (r ∷ rs) some low =
    rw (ne_eqb (nat_abs r) 0 (λ e. omega (arith, some 0 (omega arith))), le-ltb nnodes (nat_abs r) (low 0 (omega arith)))
    (roots-pass nnodes rs (λ i h. some (suc i) (omega arith)) (λ i h. low (suc i) (omega arith)))
