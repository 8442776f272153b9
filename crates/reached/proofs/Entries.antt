-- Which numbers stand in a list, and where.
use mathlib.Core.Path.{◌≡◌, refl, sym, ap, ◌∙◌}
use mathlib.Core.Bool.{Bool, true, false, cond, not, ◌||◌, or_assoc, or-true}
use mathlib.Core.List.{List, [], ◌∷◌, ◌++◌}
use Prim.Native.Nat.{ℕ, zero, suc, ◌≤◌, ◌<◌}
use native.Mathlib.Omega.{arith}
use lib.ListN.{length, get_or}
use lib.Dec.{eqb}
use borrow.Author.Tests.{eqb-false, eq-eqb, ne_eqb, not-true, not-false}
use Rattle.codes.proofs.Bytes.{both}
use Rattle.seats.specs.Seats.{further, seat_of}
use Rattle.seats.specs.Ordered.{distinct}
use Rattle.reached.specs.Meet.{is_in}

-- true is no false
pub never : {b : Bool} → b ≡ true → b ≡ false → ⊥
never p q = let z : ◌≡◌ {A = ℕ} 0 1 = cc in omega arith

-- a number stands in a list that begins with it, or where it stands in the rest
pub in-cons : (x y : ℕ) (l : List ℕ) → is_in x (y ∷ l) ≡ (eqb x y || is_in x l)
unfolding seat_of
in-cons x y l = go (eqb x y) (seat_of x l)
  where
    go : (b : Bool) (s : ℕ) → not (eqb (cond b 1 (further s)) 0) ≡ (b || not (eqb s 0))
    go true s = refl
    go false zero = refl
    go false (suc s) = rw (ne_eqb (suc (suc s)) 0 (λ e. omega arith), ne_eqb (suc s) 0 (λ e. omega arith))

-- so it stands in one that begins with it
pub in-here : (x : ℕ) (l : List ℕ) → is_in x (x ∷ l) ≡ true
in-here x l = in-cons x x l ∙ rw (eq-eqb x x refl)

-- and in one whose rest it stands in
pub in_rest : (x y : ℕ) (l : List ℕ) → is_in x l ≡ true → is_in x (y ∷ l) ≡ true
in_rest x y l h = in-cons x y l ∙ rw h (or-true (eqb x y))

-- in two lists together, where it stands in one of them
pub in-append : (x : ℕ) (a b : List ℕ) → is_in x (a ++ b) ≡ (is_in x a || is_in x b)
unfolding seat_of
in-append x [] b = refl
in-append x (y ∷ a) b =
    in-cons x y (a ++ b) ∙ ap (λ t. eqb x y || t) (in-append x a b)
    ∙ sym (or_assoc (eqb x y) (is_in x a) (is_in x b)) ∙ ap (λ t. t || is_in x b) (sym (in-cons x y a))

-- a number that stands in a list has a seat
pub in-seat : (x : ℕ) (l : List ℕ) → is_in x l ≡ true → 1 ≤ seat_of x l
in-seat x l h = let n = eqb-false (seat_of x l) 0 (not-true _ h) in omega (arith, n)

-- each entry stands in its list
pub entry_in : (l : List ℕ) (i : ℕ) → i < length l → is_in (get_or l i 0) l ≡ true
entry_in [] i h = absurd (omega arith)
entry_in (x ∷ l) zero h = in-here x l
entry_in (x ∷ l) (suc i) h = in_rest (get_or l i 0) x l (entry_in l i (omega arith))

-- of no two equal entries the first doesn't stand in the rest ..
pub once-head : (x : ℕ) (l : List ℕ) → distinct (x ∷ l) ≡ true → is_in x l ≡ false
unfolding distinct
once-head x l h = rw (both (eqb (seat_of x l) 0) (distinct l) h).0

-- .. which has no two equal either ..
pub once-tail : (x : ℕ) (l : List ℕ) → distinct (x ∷ l) ≡ true → distinct l ≡ true
unfolding distinct
once-tail x l h = (both (eqb (seat_of x l) 0) (distinct l) h).1

-- .. and this is all
pub once-cons : (x : ℕ) (l : List ℕ) → is_in x l ≡ false → distinct l ≡ true → distinct (x ∷ l) ≡ true
unfolding distinct
once-cons x l h k = rw (not-false (eqb (seat_of x l) 0) h, k)

-- no two are equal in two lists that share no number
pub once-append : (a b : List ℕ) → distinct a ≡ true → distinct b ≡ true → ((x : ℕ) → is_in x a ≡ true → is_in x b ≡ false)
    → distinct (a ++ b) ≡ true
once-append [] b h k apart = k
once-append (x ∷ a) b h k apart =
    once-cons x (a ++ b) (in-append x a b ∙ rw (once-head x a h, apart x (in-here x a)))
    (once-append a b (once-tail x a h) k (λ y q. apart y (in_rest y x a q)))
