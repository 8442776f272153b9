-- Laws of numbers that don't stand in a list, and of how many there are below a number.
use mathlib.Core.Path.{◌≡◌, refl, sym, ap, ◌∙◌}
use mathlib.Core.Bool.{true}
use mathlib.Core.List.{List, [], ◌∷◌}
use Prim.Native.Nat.{ℕ, zero, suc, ◌+◌, ◌-◌, ◌≤◌, ◌<◌}
use native.Mathlib.Omega.{arith}
use native.Mathlib.Decide.{ℕ_discrete, dec_lt}
use lib.ListN.{length, get_or}
use lib.Dec.{eqb}
use borrow.Author.Tests.{eqb-true}
use Rattle.codes.proofs.Bytes.{both}
use Rattle.seats.specs.Seats.{further, seat_of}
use Rattle.seats.specs.Ordered.{distinct}
use Rattle.seats.specs.Outside.{Outside, outside_below}
use Rattle.seats.proofs.Seating.{seat-here, seat-there, seat-most}
use Rattle.seats.proofs.NumberSeats.{seat-found}

-- one further on is no seat only where there was none
none-on : (s : ℕ) → further s ≡ 0 → s ≡ 0
none-on zero e = refl
none-on (suc s) e = absurd (omega arith)

-- a number that has no seat is no first entry, and has none in the rest
unseated-cons : (x y : ℕ) (l : List ℕ) → seat_of x (y ∷ l) ≡ 0 → (y ≡ x → ⊥) × (seat_of x l ≡ 0)
unseated-cons x y l e = go (ℕ_discrete x y)
  where
    go : Dec (x ≡ y) → (y ≡ x → ⊥) × (seat_of x l ≡ 0)
    go (yes d) = absurd (omega (arith, sym e ∙ ap (λ z. seat_of z (y ∷ l)) d ∙ seat-here y l))
    go (no d) = (λ q. d (sym q), none-on (seat_of x l) (sym (seat-there x y l d) ∙ e))

-- a number that has no seat is outside
pub unseated-outside : (x : ℕ) (l : List ℕ) → seat_of x l ≡ 0 → Outside x l
unseated-outside x [] e i h = absurd (omega arith)
unseated-outside x (y ∷ l) e zero h = (unseated-cons x y l e).0
unseated-outside x (y ∷ l) e (suc i) h = unseated-outside x l (unseated-cons x y l e).1 i (omega arith)

-- and a number outside has none
pub outside-unseated : (x : ℕ) (l : List ℕ) → Outside x l → seat_of x l ≡ 0
outside-unseated x l o = go (seat_of x l) refl
  where
    go : (s : ℕ) → seat_of x l ≡ s → seat_of x l ≡ 0
    go zero e = e
    go (suc s) e = absurd (o (seat_of x l - 1) (omega (arith, seat-most x l)) (seat-found x l (omega arith)))

-- below 0 there are none
pub none_below : (l : List ℕ) → outside_below 0 l ≡ 0
unfolding outside_below
none_below l = refl

module _ (n : ℕ) (l : List ℕ) where
  -- a number without a seat counts
  pub outside-counts : seat_of n l ≡ 0 → outside_below (suc n) l ≡ suc (outside_below n l)
  unfolding outside_below
  outside-counts e = rw (outside_below, e)

  -- an entry doesn't
  pub entry-counts-not : (seat_of n l ≡ 0 → ⊥) → outside_below (suc n) l ≡ outside_below n l
  unfolding outside_below
  entry-counts-not f = let e : seat_of n l ≡ suc (seat_of n l - 1) = omega (arith, f) in rw (outside_below, e)

  -- one number more is one more at most
  outside-step : outside_below n l ≤ outside_below (suc n) l
  outside-step = go (ℕ_discrete (seat_of n l) 0)
    where
      go : Dec (seat_of n l ≡ 0) → outside_below n l ≤ outside_below (suc n) l
      go (yes e) = omega (arith, outside-counts e)
      go (no e) = omega (arith, entry-counts-not e)

-- more numbers have no fewer outside
pub outside-grows : (n m : ℕ) (l : List ℕ) → n ≤ m → outside_below n l ≤ outside_below m l
outside-grows n zero l h = let e : n ≡ 0 = omega arith in rw e (omega arith)
outside-grows n (suc m) l h = go (outside-grows n m l) (ℕ_discrete n (suc m))
  where
    go : (n ≤ m → outside_below n l ≤ outside_below m l) → Dec (n ≡ suc m) → outside_below n l ≤ outside_below (suc m) l
    go f (yes e) = rw e (omega arith)
    go f (no e) = omega (arith, f (omega arith), outside-step m l)

-- below a number outside there are fewer than below one that is above it
pub outside-fewer : (p q : ℕ) (l : List ℕ) → seat_of p l ≡ 0 → p < q → outside_below p l < outside_below q l
outside-fewer p q l e h = omega (arith, outside-counts p l e, outside-grows (suc p) q l h)

-- of the numbers outside there is one k-th
pub outside-unique : (p q : ℕ) (l : List ℕ) → Outside p l → Outside q l → outside_below p l ≡ outside_below q l → p ≡ q
outside-unique p q l a b e = go (dec_lt p q) (dec_lt q p)
  where
    go : Dec (p < q) → Dec (q < p) → p ≡ q
    go (yes h) d = absurd (omega (arith, outside-fewer p q l (outside-unseated p l a) h))
    go (no h) (yes k) = absurd (omega (arith, outside-fewer q p l (outside-unseated q l b) k))
    go (no h) (no k) = omega arith

-- of no entries each number is outside
none_inside : (n : ℕ) → outside_below n [] ≡ n
unfolding outside_below seat_of
none_inside zero = refl
none_inside (suc n) = ap suc (none_inside n)

module _ (x : ℕ) (l : List ℕ) (free : seat_of x l ≡ 0) where
  -- an entry more changes nothing below it
  more-above : (n : ℕ) → n ≤ x → outside_below n (x ∷ l) ≡ outside_below n l
  unfolding outside_below
  more-above zero h = refl
  more-above (suc n) h = go (more-above n (omega arith)) (seat_of n l) refl
    where
      go : outside_below n (x ∷ l) ≡ outside_below n l → (s : ℕ) → seat_of n l ≡ s → outside_below (suc n) (x ∷ l) ≡ outside_below (suc n) l
      go q zero e =
          outside-counts n (x ∷ l) (seat-there n x l (λ d. omega arith) ∙ ap further e) ∙ ap suc q ∙ sym (outside-counts n l e)
      go q (suc s) e =
          entry-counts-not n (x ∷ l) (λ z. omega (arith, sym z ∙ seat-there n x l (λ d. omega arith) ∙ ap further e))
          ∙ q ∙ sym (entry-counts-not n l (λ z. omega arith))

  -- above it, it is one outside fewer
  more-below : (n : ℕ) → x < n → suc (outside_below n (x ∷ l)) ≡ outside_below n l
  more-below zero h = absurd (omega arith)
  more-below (suc n) h = go (more-below n) (ℕ_discrete n x) (seat_of n l) refl
    where
      go : (x < n → suc (outside_below n (x ∷ l)) ≡ outside_below n l) → Dec (n ≡ x) → (s : ℕ) → seat_of n l ≡ s
          → suc (outside_below (suc n) (x ∷ l)) ≡ outside_below (suc n) l
      go f (yes d) s e = rw d
          (ap suc (entry-counts-not x (x ∷ l) (λ z. omega (arith, seat-here x l)) ∙ more-above x (omega arith)) ∙ sym (outside-counts x l free))
      go f (no d) zero e =
          ap suc (outside-counts n (x ∷ l) (seat-there n x l d ∙ ap further e) ∙ f (omega arith)) ∙ sym (outside-counts n l e)
      go f (no d) (suc s) e =
          ap suc (entry-counts-not n (x ∷ l) (λ z. omega (arith, sym z ∙ seat-there n x l d ∙ ap further e)))
          ∙ f (omega arith) ∙ sym (entry-counts-not n l (λ z. omega arith))

-- of n numbers, where entries below n differ, all but as many as there are entries are outside
pub outside-all : (n : ℕ) (l : List ℕ) → distinct l ≡ true → ((i : ℕ) → i < length l → get_or l i 0 < n) → outside_below n l + length l ≡ n
unfolding distinct
outside-all n [] d b = omega (arith, none_inside n)
outside-all n (x ∷ l) d b =
    let p = both (eqb (seat_of x l) 0) (distinct l) d in
    omega (arith, more-below x l (eqb-true (seat_of x l) 0 p.0) n (b 0 (omega arith)), outside-all n l p.1 (λ i h. b (suc i) (omega arith)))
