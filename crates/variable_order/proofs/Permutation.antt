-- An order is a permutation of the levels: each level stands in it, once.
use mathlib.Core.Path.{◌≡◌, refl, sym, ap, ◌∙◌}
use mathlib.Core.Bool.{Bool, true, false, true≢false}
use mathlib.Core.List.{List, [], ◌∷◌}
use Prim.Native.Nat.{ℕ, zero, suc, ◌+◌, ◌-◌, ◌≤◌, ◌<◌}
use native.Mathlib.Numerals.{add-one}
use native.Mathlib.Omega.{arith}
use lib.ListN.{length, get_or, set, replicate}
use lib.Dec.{eqb}
use borrow.Author.Tests.{eqb-true, lt-ltb, eq-eqb}
use Rattle.codes.proofs.Bytes.{both}
use Rattle.seats.specs.Seats.{seat_of}
use Rattle.support.specs.Support.{all_below, permids_fit}
use Rattle.seats.specs.Ordered.{distinct}
use Rattle.support.proofs.Distinct.{Marked, marked_start, marked_more, marked-twice, permids-below}
use Rattle.variable_order.specs.Order.{is_order}
use Rattle.seats.proofs.NumberSeats.{seat-found, seat-entry}

-- how many are marked
abbrev tally : List Bool → ℕ
tally [] = 0
tally (true ∷ m) = suc (tally m)
tally (false ∷ m) = tally m

-- at first none is
tally-none : (n : ℕ) → tally (replicate n false) ≡ 0
tally-none zero = refl
tally-none (suc n) = tally-none n

-- no more than there are
tally-most : (m : List Bool) → tally m ≤ length m
tally-most [] = omega arith
tally-most (true ∷ m) = omega (arith, tally-most m)
tally-most (false ∷ m) = omega (arith, tally-most m)

-- a new mark is one more
tally-set : (m : List Bool) (x : ℕ) → x < length m → get_or m x false ≡ false → tally (set m x true) ≡ suc (tally m)
tally-set [] x h e = absurd (omega arith)
tally-set (true ∷ m) zero h e = absurd (true≢false e)
tally-set (false ∷ m) zero h e = refl
tally-set (true ∷ m) (suc x) h e = ap suc (tally-set m x (omega arith) e)
tally-set (false ∷ m) (suc x) h e = tally-set m x (omega arith) e

module _ (n : ℕ) (l : List ℕ) (h : permids_fit n l ≡ true) where
  -- among n marks, one for each of the first i entries
  record Counted (i : ℕ) : Type 0 where
    met : List Bool
    marked : Marked n n l met i
    many : tally met ≡ i

  -- the next entry has no mark yet, and gets one
  counted : (i : ℕ) → i ≤ length l → Counted i
  counted zero k = record { met = replicate n false; marked = marked_start n n l; many = tally-none n }
  counted (suc i) k = more (counted i (omega arith))
    where
      more : Counted i → Counted (suc i)
      more c =
          let b = permids-below n l h i k in
          let new = go (get_or c.met (get_or l i 0) false) refl in
          record {
            met = set c.met (get_or l i 0) true;
            marked = rw (← add-one i) (marked_more n n l c.met i c.marked (omega arith) k b new);
            many = tally-set c.met (get_or l i 0) (omega (arith, c.marked.long)) new ∙ ap suc c.many;
          }
        where
          go : (b : Bool) → get_or c.met (get_or l i 0) false ≡ b → get_or c.met (get_or l i 0) false ≡ false
          go true e = absurd (true≢false (sym h ∙ marked-twice n n l c.met i c.marked k e))
          go false e = e

  -- at most n numbers below n differ
  pub few-differ : length l ≤ n
  few-differ = let c = counted (length l) (omega arith) in omega (arith, tally-most c.met, c.many, c.marked.long)

module _ (levels : ℕ) (order : List ℕ) (h : is_order levels order ≡ true) where
  -- as many entries as levels
  pub order-length : length order ≡ levels
  unfolding is_order
  order-length = eqb-true (length order) levels (both (eqb (length order) levels) (permids_fit levels order) h).0

  -- they are levels, and differ
  order-fits : permids_fit levels order ≡ true
  unfolding is_order
  order-fits = (both (eqb (length order) levels) (permids_fit levels order) h).1

  -- each is a level
  pub order_below : (v : ℕ) → v < length order → get_or order v 0 < levels
  order_below = permids-below levels order order-fits

  -- none stands twice
  pub order-distinct : distinct order ≡ true
  unfolding permids_fit
  order-distinct = (both (all_below levels order) (distinct order) order-fits).1

  -- the seat of a variable's level is the variable, counted from 1
  pub variable-seat : (v : ℕ) → v < length order → seat_of (get_or order v 0) order ≡ v + 1
  variable-seat = seat-entry order order-distinct

  -- each level has a seat: with one that has none there would be too many that differ
  pub level-seated : (l : ℕ) → l < levels → 1 ≤ seat_of l order
  unfolding permids_fit all_below distinct
  level-seated l k = go (seat_of l order) refl
    where
      go : (s : ℕ) → seat_of l order ≡ s → 1 ≤ seat_of l order
      go zero e =
          let f = both (all_below levels order) (distinct order) order-fits in
          absurd (omega (arith, few-differ levels (l ∷ order) (rw (lt-ltb l levels k, f.0, eq-eqb _ _ e, f.1)), order-length))
      go (suc s) e = omega arith

  -- and stands there
  pub level-found : (l : ℕ) → l < levels → get_or order (seat_of l order - 1) 0 ≡ l
  level-found l k = seat-found l order (level-seated l k)
