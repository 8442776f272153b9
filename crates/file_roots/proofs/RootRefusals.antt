-- Which of document 01's numbers the roots are refused with: 'per root 25 zero, 26 magnitude above `.nnodes`'.
use mathlib.Core.Path.{◌≡◌, sym}
use mathlib.Core.Bool.{Bool, true, false, cond}
use mathlib.Core.List.{List, [], ◌∷◌}
use mathlib.Core.Logic.{◌⊎◌, inl, inr}
use Prim.Native.Nat.{ℕ}
use lib.IntN.{ℤ, nat_abs}
use lib.Dec.{ltb, eqb}
use Rattle.file_roots.specs.Roots.{roots_fault}

-- Roots have no fault, or 25, or 26.
pub roots-numbers : (nnodes : ℕ) (rs : List ℤ) (n : ℕ) → roots_fault nnodes rs ≡ n → (n ≡ 0) ⊎ (n ≡ 25) ⊎ (n ≡ 26)
unfolding roots_fault
roots-numbers nnodes [] n e = inl (sym e)
roots-numbers nnodes (r ∷ rs) n e = of (eqb (nat_abs r) 0) (ltb nnodes (nat_abs r)) (roots-numbers nnodes rs n) e
  where
    of : (b c : Bool) → (roots_fault nnodes rs ≡ n → (n ≡ 0) ⊎ (n ≡ 25) ⊎ (n ≡ 26)) → cond b 25 (cond c 26 (roots_fault nnodes rs)) ≡ n
        → (n ≡ 0) ⊎ (n ≡ 25) ⊎ (n ≡ 26)
    of true c h k = inr (inl (sym k))
    of false true h k = inr (inr (sym k))
    of false false h k = h k
