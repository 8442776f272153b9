-- Laws of ids that ascend.
use mathlib.Core.Path.{◌≡◌, refl, sym, ap, ◌∙◌}
use mathlib.Core.Bool.{Bool, true, false}
use mathlib.Core.List.{List, [], ◌∷◌}
use Prim.Native.Nat.{ℕ, zero, suc, ◌+◌, ◌-◌, ◌<◌}
use native.Mathlib.Omega.{arith}
use lib.ListN.{length, get_or}
use lib.Dec.{ltb}
use borrow.Author.Tests.{ltb-true, ltb-false}
use Rattle.std.specs.Prelude.{Option, Some, None, MatchOption}
use Rattle.std.specs.Borrow.{Bor}
use Rattle.std.specs.List.{IsAllAdjacentAnswer, slice_get}
use Rattle.std.specs.Option.{option_copied}
use Rattle.std.proofs.lemmas.Option.{none-some, slice_get-get_or, get_or_from_slice_get}
use Rattle.codes.proofs.Bytes.{both}
use Rattle.seats.specs.Ordered.{ascending}
use Rattle.seats.proofs.OrderedLists.{ascending-ascends}
use Rattle.support.specs.Support.{last_below, ids_fit}

-- where each entry is below the one after it they ascend
neighbours-ascend : (l : List ℕ) → ((k d : ℕ) → k + 1 < length l → true ≡ ltb (get_or l k d) (get_or l (k + 1) d)) → true ≡ ascending l
unfolding ascending
neighbours-ascend [] h = refl
neighbours-ascend (x ∷ []) h = refl
neighbours-ascend (x ∷ y ∷ l) h =
    rw (← h 0 0 (omega arith)) (neighbours-ascend (y ∷ l) (λ k d q. let e : suc k + 1 ≡ suc (k + 1) = omega arith in rw e at (h (suc k) d (omega arith))))

-- where one isn't they don't
neighbours-fall : (l : List ℕ) (k : ℕ) → k + 1 < length l → false ≡ ltb (get_or l k 0) (get_or l (k + 1) 0) → false ≡ ascending l
neighbours-fall l k h e = go (ascending l) refl
  where
    go : (b : Bool) → ascending l ≡ b → false ≡ b
    go false q = refl
    go true q = absurd (omega (arith, (ascending-ascends l).0 q k (k + 1) (omega arith) h, ltb-false (get_or l k 0) (get_or l (k + 1) 0) (sym e)))

-- what the library's `is_sorted_by` answers, asked whether each entry is below the next
sorted-ascending : (r : Bool) (l : List ℕ) → IsAllAdjacentAnswer (λ x y b. b ≡ ltb x y) l r → r ≡ ascending l
sorted-ascending true l h = neighbours-ascend l h
sorted-ascending false l h = neighbours-fall l h.0 h.1 (h.2 0)

-- the last entry of a list that has one
last_entry : (n : ℕ) (l : List ℕ) → 0 < length l → last_below n l ≡ ltb (get_or l (length l - 1) 0) n
unfolding last_below
last_entry n [] h = absurd (omega arith)
last_entry n (x ∷ []) h = refl
last_entry n (x ∷ y ∷ l) h =
    let e : suc (length (y ∷ l) - 1) ≡ length (x ∷ y ∷ l) - 1 = omega arith in
    last_entry n (y ∷ l) (omega arith) ∙ ap (λ k. ltb (get_or (x ∷ y ∷ l) k 0) n) e

-- what is asked of the last entry, if there is one
pub last-asked : {r : Bool} {P : Bor ℕ → Type 0} (n : ℕ) (l : List ℕ) (o : Option (Bor ℕ)) → option_copied o ≡ slice_get l (length l - 1)
    → MatchOption o (r ≡ true) P → ((x : Bor ℕ) → P x → r ≡ ltb x.now n) → r ≡ last_below n l
unfolding last_below
last-asked n [] None e h f = h
last-asked n (x ∷ l) None e h f = absurd (none-some _ (e ∙ slice_get-get_or (x ∷ l) (length (x ∷ l) - 1) 0 (omega arith)))
last-asked n [] (Some x) e h f = absurd (none-some _ (sym e))
last-asked n (y ∷ l) (Some x) e h f =
    f x h ∙ ap (λ z. ltb z n) (sym (get_or_from_slice_get (y ∷ l) (length (y ∷ l) - 1) x.now 0 (sym e))) ∙ sym (last_entry n (y ∷ l) (omega arith))

-- ids that don't ascend don't fit
pub unsorted : {r : Bool} (n : ℕ) (l : List ℕ) → IsAllAdjacentAnswer (λ x y b. b ≡ ltb x y) l r → r ≡ false → r ≡ ids_fit n l
unfolding ids_fit
unsorted n l h e = rw (← sorted-ascending _ l h, e)

-- of those that do the last decides
pub sorted : {r q : Bool} (n : ℕ) (l : List ℕ) → IsAllAdjacentAnswer (λ x y b. b ≡ ltb x y) l r → r ≡ true → q ≡ last_below n l → q ≡ ids_fit n l
unfolding ids_fit
sorted n l h e k = rw (← sorted-ascending _ l h, e) k

-- where ids ascend and the last is below n each is below n
ascending-below : (n : ℕ) (l : List ℕ) → ascending l ≡ true → last_below n l ≡ true → (i : ℕ) → i < length l → get_or l i 0 < n
unfolding ascending last_below
ascending-below n [] a b i h = absurd (omega arith)
ascending-below n (x ∷ []) a b zero h = ltb-true x n b
ascending-below n (x ∷ []) a b (suc i) h = absurd (omega arith)
ascending-below n (x ∷ y ∷ l) a b zero h =
    let p = both (ltb x y) (ascending (y ∷ l)) a in
    omega (arith, ltb-true x y p.0, ascending-below n (y ∷ l) p.1 b 0 (omega arith))
ascending-below n (x ∷ y ∷ l) a b (suc i) h = ascending-below n (y ∷ l) (both (ltb x y) (ascending (y ∷ l)) a).1 b i (omega arith)

-- ids that fit are below the number of variables
pub ids-below : (n : ℕ) (l : List ℕ) → ids_fit n l ≡ true → (i : ℕ) → i < length l → get_or l i 0 < n
unfolding ids_fit
ids-below n l h = let p = both (ascending l) (last_below n l) h in ascending-below n l p.0 p.1
