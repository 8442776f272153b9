-- Levels that ascend are in the order of their positions.
use mathlib.Core.Path.{◌≡◌, refl}
use mathlib.Core.Bool.{true}
use mathlib.Core.List.{List, [], ◌∷◌}
use Prim.Native.Nat.{ℕ, zero, suc, ◌≤◌, ◌<◌}
use native.Mathlib.Omega.{arith}
use lib.ListN.{length, get_or}
use lib.Dec.{ltb}
use borrow.Author.Tests.{ltb-true}
use Rattle.codes.proofs.Bytes.{both}
use Rattle.seats.specs.Ordered.{ascending}

-- the first is below all others
ascending-first : (x : ℕ) (l : List ℕ) → ascending (x ∷ l) ≡ true → (i : ℕ) → i < length l → x < get_or l i 0
unfolding ascending
ascending-first x [] a i h = absurd (omega arith)
ascending-first x (y ∷ l) a zero h = ltb-true x y (both (ltb x y) (ascending (y ∷ l)) a).0
ascending-first x (y ∷ l) a (suc i) h =
    let k = both (ltb x y) (ascending (y ∷ l)) a in
    omega (arith, ltb-true x y k.0, ascending-first y l k.1 i (omega arith))

-- those after it ascend too
ascending-rest : (x : ℕ) (l : List ℕ) → ascending (x ∷ l) ≡ true → ascending l ≡ true
unfolding ascending
ascending-rest x [] a = refl
ascending-rest x (y ∷ l) a = (both (ltb x y) (ascending (y ∷ l)) a).1

-- a later one is no less
pub ascending-order : (l : List ℕ) → ascending l ≡ true → (i j : ℕ) → i ≤ j → j < length l → get_or l i 0 ≤ get_or l j 0
ascending-order [] a i j k h = absurd (omega arith)
ascending-order (x ∷ l) a zero zero k h = omega arith
ascending-order (x ∷ l) a zero (suc j) k h = omega (arith, ascending-first x l a j (omega arith))
ascending-order (x ∷ l) a (suc i) zero k h = absurd (omega arith)
ascending-order (x ∷ l) a (suc i) (suc j) k h = ascending-order l (ascending-rest x l a) i j (omega arith) (omega arith)
