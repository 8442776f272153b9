-- The support by each level's seat.
use mathlib.Core.Path.{◌≡◌, refl, sym, ap, ◌∙◌}
use mathlib.Core.Bool.{true, false, not, true≢false}
use mathlib.Core.List.{List, [], ◌∷◌}
use Prim.Native.Nat.{ℕ, zero, suc, ◌+◌, ◌≤◌, ◌<◌}
use native.Mathlib.Omega.{arith}
use native.Mathlib.Decide.{ℕ_discrete}
use lib.Dec.{ltb, eqb}
use lib.ListN.{length, get_or}
use borrow.Author.Tests.{ltb-true, ne_eqb}
use Rattle.codes.proofs.Bytes.{both}
use Rattle.seats.specs.Seats.{further, seat_of, Seats}
use Rattle.seats.specs.Ordered.{ascending}
use Rattle.support.specs.Support.{last_below, ids_fit}
use Rattle.seats.proofs.Seating.{seat-here, seat-there}
use Rattle.reached.specs.Meet.{is_in}
use Rattle.reached.proofs.Members.{in-none}
use Rattle.heading.specs.Tables.{seated_from, seated_levels}

-- after another number one is in a list where it was
in-there : (x y : ℕ) (l : List ℕ) → (x ≡ y → ⊥) → is_in x (y ∷ l) ≡ is_in x l
in-there x y l h = rw (seat-there x y l h) (same (seat_of x l))
  where
    same : (s : ℕ) → not (eqb (further s) 0) ≡ not (eqb s 0)
    same zero = refl
    same (suc s) = rw (ne_eqb (suc (suc s)) 0 (λ e. omega arith), ne_eqb (suc s) 0 (λ e. omega arith))

-- no level below the first is found
in-before : (x k : ℕ) (seats : List ℕ) → x < k → is_in x (seated_from k seats) ≡ false
unfolding seated_from seat_of
in-before x k [] h = refl
in-before x k (zero ∷ seats) h = in-before x (k + 1) seats (omega arith)
in-before x k (suc s ∷ seats) h = in-there x k (seated_from (k + 1) seats) (λ e. omega arith) ∙ in-before x (k + 1) seats (omega arith)

-- a level is found where its entry isn't 0
in-from : (k i : ℕ) (seats : List ℕ) → is_in (k + i) (seated_from k seats) ≡ not (eqb (get_or seats i 0) 0)
unfolding seated_from
in-from k i [] = in-none (k + i)
in-from k zero (zero ∷ seats) = in-before (k + 0) (k + 1) seats (omega arith)
in-from k (suc i) (zero ∷ seats) =
    let e : k + suc i ≡ k + 1 + i = omega arith in
    ap (λ x. is_in x (seated_from (k + 1) seats)) e ∙ in-from (k + 1) i seats
in-from k zero (suc s ∷ seats) =
    let e : k + 0 ≡ k = omega arith in
    rw (e, seat-here k (seated_from (k + 1) seats), ne_eqb (suc s) 0 (λ q. omega arith))
in-from k (suc i) (suc s ∷ seats) =
    let e : k + suc i ≡ k + 1 + i = omega arith in
    in-there (k + suc i) k (seated_from (k + 1) seats) (λ q. omega arith) ∙ ap (λ x. is_in x (seated_from (k + 1) seats)) e ∙ in-from (k + 1) i seats

-- a level is in the support where it has a seat
pub in-seated : (seats : List ℕ) (l : ℕ) → is_in l (seated_levels seats) ≡ not (eqb (get_or seats l 0) 0)
unfolding seated_levels
in-seated seats l = let e : 0 + l ≡ l = omega arith in rw e at (in-from 0 l seats)

-- Numbers that ascend from k on, below n.
abbrev Rising : ℕ → ℕ → List ℕ → Type 0
Rising k n [] = Unit
Rising k n (x ∷ l) = (k ≤ x) × (x < n) × Rising (suc x) n l

-- a list that ascends, with its last entry below n, is such
rising : (k n : ℕ) (l : List ℕ) → ascending l ≡ true → last_below n l ≡ true → k ≤ get_or l 0 k → Rising k n l
unfolding ascending last_below
rising k n [] a b h = tt
rising k n (x ∷ []) a b h = (h, ltb-true x n b, tt)
rising k n (x ∷ y ∷ l) a b h =
    let p = both (ltb x y) (ascending (y ∷ l)) a in
    let r = rising (suc x) n (y ∷ l) p.1 b (ltb-true x y p.0) in
    (h, omega (arith, r.0, r.1), r)

-- no smaller number is in it
rising-out : (x k n : ℕ) (l : List ℕ) → Rising k n l → x < k → is_in x l ≡ false
unfolding seat_of
rising-out x k n [] r h = refl
rising-out x k n (y ∷ l) r h = in-there x y l (λ e. omega (arith, r.0)) ∙ rising-out x (suc y) n l r.2 (omega (arith, r.0))

-- without the first number it ascends from the next on
rising-more : (k n : ℕ) (l : List ℕ) → Rising k n l → is_in k l ≡ false → Rising (k + 1) n l
rising-more k n [] r h = tt
rising-more k n (x ∷ l) r h = go (ℕ_discrete k x)
  where
    go : Dec (k ≡ x) → Rising (k + 1) n (x ∷ l)
    go (yes e) = absurd (true≢false (sym (rw (e, seat-here x l)) ∙ h))
    go (no e) = (omega (arith, e, r.0), r.1, r.2)

-- a list that k is in begins with it, and its others are what is seated after k
first-seated : (k n : ℕ) (seats l : List ℕ) → Rising k n l → is_in k l ≡ true
    → ((m : List ℕ) → Rising (k + 1) n m → ((i : ℕ) → is_in (k + 1 + i) m ≡ is_in (k + 1 + i) l) → seated_from (k + 1) seats ≡ m)
    → k ∷ seated_from (k + 1) seats ≡ l
unfolding seat_of
first-seated k n seats [] r t rest = absurd (true≢false (sym t))
first-seated k n seats (x ∷ l) r t rest = go (ℕ_discrete k x)
  where
    go : Dec (k ≡ x) → k ∷ seated_from (k + 1) seats ≡ x ∷ l
    go (yes e) =
        let q : suc x ≡ k + 1 = omega arith in
        ap (λ m. k ∷ m) (rest l (rw q at r.2) (λ i. sym (in-there (k + 1 + i) x l (λ z. omega arith)))) ∙ ap (λ y. y ∷ l) e
    go (no e) = absurd (true≢false (sym t ∙ rising-out k (suc k) n (x ∷ l) (omega (arith, e, r.0), r.1, r.2) (omega arith)))

-- where a table has an entry other than 0 for just the numbers of such a list, the list is what is seated
seated-from : (k n : ℕ) (seats l : List ℕ) → Rising k n l → n ≤ k + length seats
    → ((i : ℕ) → i < length seats → is_in (k + i) l ≡ not (eqb (get_or seats i 0) 0)) → seated_from k seats ≡ l
unfolding seated_from
seated-from k n [] [] r h f = refl
seated-from k n [] (x ∷ l) r h f = absurd (omega (arith, r.0, r.1))
seated-from k n (zero ∷ seats) l r h f =
    let e : k + 0 ≡ k = omega arith in
    seated-from (k + 1) n seats l (rising-more k n l r (rw e at (f 0 (omega arith)))) (omega arith)
    (λ i p. let q : k + 1 + i ≡ k + suc i = omega arith in rw q (f (suc i) (omega arith)))
seated-from k n (suc s ∷ seats) l r h f =
    let e : k + 0 ≡ k = omega arith in
    first-seated k n seats l r (rw e at (f 0 (omega arith) ∙ ap not (ne_eqb (suc s) 0 (λ q. omega arith))))
    (λ m q g.
    seated-from (k + 1) n seats m q (omega arith)
    (λ i p. g i ∙ (let z : k + 1 + i ≡ k + suc i = omega arith in rw z (f (suc i) (omega arith)))))

-- The levels that have a seat are the support, where the table holds each level's seat in it.
pub seated-support : (levels : ℕ) (support seats : List ℕ) → Seats support seats → ids_fit levels support ≡ true → levels ≤ length seats
    → seated_levels seats ≡ support
unfolding seated_levels ids_fit
seated-support levels support seats t h k =
    let p = both (ascending support) (last_below levels support) h in
    seated-from 0 levels seats support (rising 0 levels support p.0 p.1 (omega arith)) (omega arith)
    (λ i q. let z : 0 + i ≡ i = omega arith in rw z (ap (λ s. not (eqb s 0)) (sym (t i q))))
