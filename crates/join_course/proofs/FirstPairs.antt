-- The first pairs of a list that is written at its end.
use mathlib.Core.Path.{◌≡◌, refl, ap, ap₂}
use mathlib.Core.List.{List, ◌∷◌}
use Prim.Native.Nat.{ℕ, zero, suc, ◌≤◌, ◌<◌}
use native.Mathlib.Omega.{arith}
use native.Mathlib.Nat.{le_refl}
use lib.ListN.{length, set}
use lib.Seq.{get_or-set_same, get_or-set_other}
use Rattle.join_course.specs.declared.Waiting.{Waiting}
use Rattle.join_course.specs.Pairs.{first_pairs}

pub pairs-many : (w : List Waiting) (n : ℕ) → length (first_pairs w n) ≡ n
unfolding first_pairs
pairs-many w zero = refl
pairs-many w (suc n) = ap suc (pairs-many w n)

-- those before it stay
pairs-before : (w : List Waiting) (n : ℕ) (p : Waiting) (k : ℕ) → k ≤ n → first_pairs (set w n p) k ≡ first_pairs w k
unfolding first_pairs
pairs-before w n p zero h = refl
pairs-before w n p (suc k) h = ap₂ ◌∷◌ (get_or-set_other w n k p _ (omega arith)) (pairs-before w n p k (omega arith))

-- and it is the last
pub pairs_set : (w : List Waiting) (n : ℕ) (p : Waiting) → n < length w → first_pairs (set w n p) (suc n) ≡ p ∷ first_pairs w n
unfolding first_pairs
pairs_set w n p h = ap₂ ◌∷◌ (get_or-set_same w n p _ h) (pairs-before w n p n (le_refl n))
