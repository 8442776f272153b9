-- Laws of permids, tested from left to right: each is below a number, and none stands twice, since each is marked when it is met.
use mathlib.Core.Path.{◌≡◌, refl, sym, ap, ◌∙◌}
use mathlib.Core.Bool.{Bool, true, false, not, ◌&&◌, and-true, and-false}
use mathlib.Core.List.{List, [], ◌∷◌}
use Prim.Native.Nat.{ℕ, zero, suc, ◌+◌, ◌≤◌, ◌<◌}
use native.Mathlib.Omega.{arith}
use native.Mathlib.Numerals.{add-one}
use native.Mathlib.Decide.{ℕ_discrete}
use lib.ListN.{length, get_or, drop, set, replicate, length-set, length-replicate, drop_of_length-le, get_or-eq_default}
use lib.Seq.{drop-cons, get_or-set_same, get_or-set_other}
use lib.Dec.{ltb, eqb}
use borrow.Author.Tests.{ltb-true, ltb-false, lt-ltb, le-ltb, ne_eqb}
use Rattle.codes.proofs.Bytes.{both}
use Rattle.seats.specs.Seats.{further, seat_of, Below}
use Rattle.support.specs.Support.{all_below, permids_fit}
use Rattle.seats.specs.Ordered.{distinct}
use Rattle.seats.proofs.Seating.{seat-here, seat-there}

-- each entry of a list of numbers below n is below n
pub all-below : (n : ℕ) (l : List ℕ) → all_below n l ≡ true → (i : ℕ) → i < length l → get_or l i 0 < n
unfolding all_below
all-below n [] h i k = absurd (omega arith)
all-below n (x ∷ l) h zero k = ltb-true x n (both (ltb x n) (all_below n l) h).0
all-below n (x ∷ l) h (suc i) k = all-below n l (both (ltb x n) (all_below n l) h).1 i (omega arith)

-- permids that fit are below the number of variables
pub permids-below : (n : ℕ) (l : List ℕ) → permids_fit n l ≡ true → (i : ℕ) → i < length l → get_or l i 0 < n
unfolding permids_fit
permids-below n l h = all-below n l (both (all_below n l) (distinct l) h).0

-- so they are below any number that is no less, and so is what stands beyond their end
pub permids-limit : (n m : ℕ) (l : List ℕ) → permids_fit n l ≡ true → n ≤ m → 0 < m → Below m l
permids-limit n m l h k z i = go (ltb i (length l)) refl
  where
    go : (b : Bool) → ltb i (length l) ≡ b → get_or l i 0 < m
    go true e = omega (arith, permids-below n l h i (ltb-true i (length l) e))
    go false e = rw (get_or-eq_default l 0 (ltb-false i (length l) e)) z

-- no entry has a mark
unfoldable pub unmarked : List Bool → List ℕ → Bool
unmarked met [] = true
unmarked met (x ∷ l) = not (get_or met x false) && unmarked met l

-- where there are no marks a number has none
no-mark : (m x : ℕ) → get_or (replicate m false) x false ≡ false
no-mark zero x = refl
no-mark (suc m) zero = refl
no-mark (suc m) (suc x) = no-mark m x

-- and no entry has one
none-marked : (m : ℕ) (l : List ℕ) → unmarked (replicate m false) l ≡ true
unfolding unmarked
none-marked m [] = refl
none-marked m (x ∷ l) = rw (no-mark m x) (none-marked m l)

-- one further on is no seat where there was none
none-further : (s : ℕ) → eqb (further s) 0 ≡ eqb s 0
none-further zero = refl
none-further (suc s) = ne_eqb (suc (suc s)) 0 (λ e. omega arith) ∙ sym (ne_eqb (suc s) 0 (λ e. omega arith))

-- of three tests that all must hold the order doesn't matter
swapped : (a b c : Bool) → (a && (b && c)) ≡ (b && (a && c))
swapped true b c = refl
swapped false true c = refl
swapped false false c = refl

module _ (met : List Bool) (x : ℕ) (h : x < length met) where
  -- the law below for one entry more
  mark-one : (y : ℕ) (l : List ℕ) → unmarked (set met x true) l ≡ (eqb (seat_of x l) 0 && unmarked met l)
      → Dec (y ≡ x) → unmarked (set met x true) (y ∷ l) ≡ (eqb (seat_of x (y ∷ l)) 0 && unmarked met (y ∷ l))
  unfolding unmarked
  mark-one y l q (yes e) = rw (e, seat-here x l, get_or-set_same met x true false h)
  mark-one y l q (no e) =
      rw (get_or-set_other met x y true false e, seat-there x y l (λ k. e (sym k)), none-further (seat_of x l), q)
      (swapped (not (get_or met y false)) (eqb (seat_of x l) 0) (unmarked met l))

  -- with a mark more, for x, a list has no marked entry if it had none and x stands nowhere in it
  mark : (l : List ℕ) → unmarked (set met x true) l ≡ (eqb (seat_of x l) 0 && unmarked met l)
  unfolding unmarked seat_of
  mark [] = refl
  mark (y ∷ l) = mark-one y l (mark l) (ℕ_discrete y x)

-- the permids that are left fit: below the number, none twice, and none with a mark
unfoldable pub rest_fits : ℕ → List Bool → List ℕ → Bool
rest_fits n met l = all_below n l && (distinct l && unmarked met l)

-- three tests that all must hold, put together another way
regrouped : (a b c : Bool) → ((a && b) && c) ≡ (b && (a && c))
regrouped true b c = refl
regrouped false true c = refl
regrouped false false c = refl

module _ (n : ℕ) (met : List Bool) (x : ℕ) (l : List ℕ) where
  -- the next is below the number and has no mark: it gets one
  rest_more : x < n → x < length met → get_or met x false ≡ false → rest_fits n met (x ∷ l) ≡ rest_fits n (set met x true) l
  unfolding rest_fits all_below distinct unmarked
  rest_more h k e =
      rw (lt-ltb x n h, e, mark met x k l) (ap (λ b. all_below n l && b) (regrouped (eqb (seat_of x l) 0) (distinct l) (unmarked met l)))

  -- the next isn't below the number
  rest_over : n ≤ x → rest_fits n met (x ∷ l) ≡ false
  unfolding rest_fits all_below
  rest_over h = rw (le-ltb x n h)

  -- the next has a mark
  rest-twice : get_or met x false ≡ true → rest_fits n met (x ∷ l) ≡ false
  unfolding rest_fits unmarked
  rest-twice e = rw (e, and-false (distinct (x ∷ l)), and-false (all_below n (x ∷ l)))

-- the first i permids are below n, differ, and are marked in a list of m marks, so that the rest decides
pub record Marked (n m : ℕ) (l : List ℕ) (met : List Bool) (i : ℕ) : Type 0 where
  pub long : length met ≡ m
  pub same : permids_fit n l ≡ rest_fits n met (drop i l)

module _ (n m : ℕ) (l : List ℕ) where
  -- at first there are no marks
  pub marked_start : Marked n m l (replicate m false) 0
  unfolding permids_fit rest_fits
  marked_start = record { long = length-replicate m false; same = rw (none-marked m l, and-true (distinct l)) }

  module _ (met : List Bool) (i : ℕ) (s : Marked n m l met i) where
    -- one permid more
    pub marked_more : n ≤ m → i < length l → get_or l i 0 < n → get_or met (get_or l i 0) false ≡ false
        → Marked n m l (set met (get_or l i 0) true) (i + 1)
    marked_more g h k e = record {
      long = length-set met (get_or l i 0) true ∙ s.long;
      same = rw add-one (s.same ∙ ap (rest_fits n met) (drop-cons l i 0 h) ∙ rest_more n met (get_or l i 0) (drop (suc i) l) k (omega (arith, s.long)) e);
    }

    -- a permid that isn't below the number
    pub marked-over : i < length l → n ≤ get_or l i 0 → permids_fit n l ≡ false
    marked-over h k = s.same ∙ ap (rest_fits n met) (drop-cons l i 0 h) ∙ rest_over n met (get_or l i 0) (drop (suc i) l) k

    -- a permid that is marked
    pub marked-twice : i < length l → get_or met (get_or l i 0) false ≡ true → permids_fit n l ≡ false
    marked-twice h e = s.same ∙ ap (rest_fits n met) (drop-cons l i 0 h) ∙ rest-twice n met (get_or l i 0) (drop (suc i) l) e

    -- no permids are left
    pub marked-end : length l ≤ i → permids_fit n l ≡ true
    unfolding rest_fits all_below distinct unmarked
    marked-end h = s.same ∙ rw (drop_of_length-le l h)
