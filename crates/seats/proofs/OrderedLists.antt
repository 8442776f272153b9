-- The tests of `Ordered` say what they are for: a list passes exactly where it ascends, or has no entry twice.
use mathlib.Core.Path.{◌≡◌, refl, sym, ap, ◌∙◌}
use mathlib.Core.Logic.{◌↔◌}
use mathlib.Core.Bool.{true}
use mathlib.Core.List.{List, [], ◌∷◌}
use Prim.Native.Nat.{ℕ, zero, suc, ◌-◌, ◌<◌}
use native.Mathlib.Omega.{arith}
use native.Mathlib.Decide.{ℕ_discrete, dec_lt}
use lib.Dec.{ltb}
use borrow.Author.Tests.{ltb-true, lt-ltb, eq-eqb}
use Rattle.codes.proofs.Bytes.{both}
use Rattle.seats.specs.Seats.{seat_of}
use Rattle.seats.specs.Ordered.{Ascends, Once, ascending, distinct}
use Rattle.seats.proofs.Seating.{seat-most}
use Rattle.seats.proofs.NumberSeats.{seat-found, seat-entry}

-- where each entry is below the one after it an earlier one is below a later one
neighbours-ascend : (l : List ℕ) → ascending l ≡ true → Ascends l
unfolding ascending
neighbours-ascend [] a i j h k = absurd (omega arith)
neighbours-ascend (x ∷ []) a i zero h k = absurd (omega arith)
neighbours-ascend (x ∷ []) a i (suc j) h k = absurd (omega arith)
neighbours-ascend (x ∷ y ∷ l) a i zero h k = absurd (omega arith)
neighbours-ascend (x ∷ y ∷ l) a zero (suc zero) h k = ltb-true x y (both (ltb x y) (ascending (y ∷ l)) a).0
neighbours-ascend (x ∷ y ∷ l) a zero (suc (suc j)) h k =
    let p = both (ltb x y) (ascending (y ∷ l)) a in
    omega (arith, ltb-true x y p.0, neighbours-ascend (y ∷ l) p.1 0 (suc j) (omega arith) (omega arith))
neighbours-ascend (x ∷ y ∷ l) a (suc i) (suc j) h k =
    neighbours-ascend (y ∷ l) (both (ltb x y) (ascending (y ∷ l)) a).1 i j (omega arith) (omega arith)

-- where an earlier entry is below a later one each is below the one after it
ascends-tested : (l : List ℕ) → Ascends l → ascending l ≡ true
unfolding ascending
ascends-tested [] a = refl
ascends-tested (x ∷ []) a = refl
ascends-tested (x ∷ y ∷ l) a =
    rw (lt-ltb x y (a 0 1 (omega arith) (omega arith))) (ascends-tested (y ∷ l) (λ i j h k. a (suc i) (suc j) (omega arith) (omega arith)))

-- the test of ascent passes exactly the lists that strictly ascend
pub ascending-ascends : (l : List ℕ) → (ascending l ≡ true) ↔ Ascends l
ascending-ascends l = (neighbours-ascend l, ascends-tested l)

-- where no entry stands among those after it two positions that have one entry are one
seats-once : (l : List ℕ) → distinct l ≡ true → Once l
seats-once l d i j h k e = omega (arith, sym (seat-entry l d i h) ∙ ap (λ x. seat_of x l) e ∙ seat-entry l d j k)

-- where no entry stands twice the first doesn't stand among those after it
first_alone : (x : ℕ) (l : List ℕ) → Once (x ∷ l) → seat_of x l ≡ 0
first_alone x l o = go (ℕ_discrete (seat_of x l) 0)
  where
    go : Dec (seat_of x l ≡ 0) → seat_of x l ≡ 0
    go (yes z) = z
    go (no z) =
        let e = o 0 (suc (seat_of x l - 1)) (omega arith) (omega (arith, seat-most x l)) (sym (seat-found x l (omega arith))) in
        absurd (omega arith)

-- and none of the others does
once-tested : (l : List ℕ) → Once l → distinct l ≡ true
unfolding distinct
once-tested [] o = refl
once-tested (x ∷ l) o =
    rw (eq-eqb (seat_of x l) 0 (first_alone x l o))
    (once-tested l (λ i j h k e. let q = o (suc i) (suc j) (omega arith) (omega arith) e in omega arith))

-- the test of entries that stand twice passes exactly the lists in which none does
pub distinct-once : (l : List ℕ) → (distinct l ≡ true) ↔ Once l
distinct-once l = (seats-once l, once-tested l)

-- in a list that ascends no entry stands twice
pub ascends-once : (l : List ℕ) → Ascends l → Once l
ascends-once l a i j h k e = go (dec_lt i j) (dec_lt j i)
  where
    go : Dec (i < j) → Dec (j < i) → i ≡ j
    go (yes b) d = absurd (omega (arith, a i j b k))
    go (no b) (yes c) = absurd (omega (arith, a j i c h))
    go (no b) (no c) = omega arith
