-- Laws of the seats of a list's entries.
use mathlib.Core.Path.{◌≡◌, refl, sym, ap, ◌∙◌}
use mathlib.Core.Bool.{true, cond}
use mathlib.Core.List.{List, [], ◌∷◌, ◌++◌}
use Prim.Native.Nat.{ℕ, zero, suc, ◌+◌, ◌-◌, ◌≤◌, ◌<◌}
use native.Mathlib.Numerals.{add-one}
use native.Mathlib.Omega.{arith}
use native.Mathlib.Decide.{ℕ_discrete}
use lib.ListN.{length, get_or}
use lib.Dec.{eqb}
use borrow.Author.Tests.{eqb-true}
use Rattle.codes.proofs.Bytes.{both}
use Rattle.seats.specs.Seats.{further, seat_of}
use Rattle.seats.specs.Ordered.{distinct}
use Rattle.seats.proofs.Seating.{seat-here, seat-there}

-- a number that has a seat stands there
pub seat-found : (x : ℕ) (l : List ℕ) → 1 ≤ seat_of x l → get_or l (seat_of x l - 1) 0 ≡ x
unfolding seat_of
seat-found x [] h = absurd (omega arith)
seat-found x (y ∷ l) h = go (ℕ_discrete x y) (seat-found x l)
  where
    later : (s : ℕ) → 1 ≤ further s → (1 ≤ s → get_or l (s - 1) 0 ≡ x) → get_or (y ∷ l) (further s - 1) 0 ≡ x
    later zero k f = absurd (omega arith)
    later (suc s) k f = let e : suc (suc s) - 1 ≡ suc (suc s - 1) = omega arith in rw e (f (omega arith))

    go : Dec (x ≡ y) → (1 ≤ seat_of x l → get_or l (seat_of x l - 1) 0 ≡ x) → get_or (y ∷ l) (seat_of x (y ∷ l) - 1) 0 ≡ x
    go (yes e) f = ap (λ (s : ℕ). get_or (y ∷ l) (s - 1) 0) (ap (λ (z : ℕ). seat_of z (y ∷ l)) e ∙ seat-here y l) ∙ sym e
    go (no e) f = rw (seat-there x y l e) (later (seat_of x l) (rw (seat-there x y l e) at h) f)

-- where no entry stands twice, the seat of an entry is its own position, counted from 1
pub seat-entry : (l : List ℕ) → distinct l ≡ true → (v : ℕ) → v < length l → seat_of (get_or l v 0) l ≡ v + 1
unfolding distinct
seat-entry [] d v h = absurd (omega arith)
seat-entry (y ∷ l) d zero h = seat-here y l
seat-entry (y ∷ l) d (suc v) h =
    let p = both (eqb (seat_of y l) 0) (distinct l) d in
    let z = eqb-true (seat_of y l) 0 p.0 in
    let q = seat-entry l p.1 v (omega arith) in
    seat-there (get_or l v 0) y l (λ e. omega (arith, q, z, ap (λ x. seat_of x l) e)) ∙ ap further (q ∙ add-one v) ∙ omega arith

-- a number that has no seat has the last one when it is put at the end
pub seat-last : (x : ℕ) (l : List ℕ) → seat_of x l ≡ 0 → seat_of x (l ++ (x ∷ [])) ≡ suc (length l)
unfolding seat_of
seat-last x [] h = seat-here x []
seat-last x (y ∷ l) h = go (ℕ_discrete x y) (seat-last x l)
  where
    none : (s : ℕ) → further s ≡ 0 → s ≡ 0
    none zero e = refl
    none (suc s) e = absurd (omega arith)

    go : Dec (x ≡ y) → (seat_of x l ≡ 0 → seat_of x (l ++ (x ∷ [])) ≡ suc (length l)) → seat_of x (y ∷ (l ++ (x ∷ []))) ≡ suc (suc (length l))
    go (yes e) f = absurd (omega (arith, ap (λ (s : ℕ). seat_of s (y ∷ l)) e, seat-here y l, h))
    go (no e) f = seat-there x y (l ++ (x ∷ [])) e ∙ ap further (f (none (seat_of x l) (rw (seat-there x y l e) at h)))

-- another number at the end leaves a seat as it was
pub seat-other : (x y : ℕ) (l : List ℕ) → (x ≡ y → ⊥) → seat_of x (l ++ (y ∷ [])) ≡ seat_of x l
unfolding seat_of
seat-other x y [] h = seat-there x y [] h
seat-other x y (z ∷ l) h = ap (λ s. cond (eqb x z) 1 (further s)) (seat-other x y l h)
