-- The seats of a list's entries: a number that stands in a list has one, and stands there.
use mathlib.Core.Path.{◌≡◌, refl, sym, ap, subst, ◌∙◌}
use mathlib.Core.Bool.{Bool, true, false, cond, ◌||◌}
use mathlib.Core.List.{List, [], ◌∷◌, ◌++◌}
use Prim.Native.Nat.{ℕ, zero, suc, ◌-◌, ◌≤◌, ◌<◌}
use native.Mathlib.Omega.{arith}
use lib.ListN.{length, get_or}
use lib.Dec.{eqb}
use borrow.Author.Tests.{eqb-true, eqb-false, ne_eqb, not-false}
use Rattle.seats.specs.Seats.{further, seat_of}
use Rattle.seats.specs.Ordered.{distinct}
use Rattle.seats.proofs.Seating.{seat-here, seat-there, seat-most}
use Rattle.reached.specs.Meet.{is_in}
use Rattle.reached.proofs.Entries.{never, in-cons, in-seat, entry_in, once-head, once-tail}

-- a number with a seat stands in the list
pub seat-in : (x : ℕ) (l : List ℕ) → 1 ≤ seat_of x l → is_in x l ≡ true
seat-in x l h = rw (ne_eqb (seat_of x l) 0 (λ e. omega arith))

-- a number that doesn't stand there has none
pub out-seat : (x : ℕ) (l : List ℕ) → is_in x l ≡ false → seat_of x l ≡ 0
out-seat x l h = eqb-true (seat_of x l) 0 (not-false _ h)

-- at its seat a number stands
pub seat-entry : (x k : ℕ) (l : List ℕ) → seat_of x l ≡ suc k → get_or l k 0 ≡ x
unfolding seat_of
seat-entry x k [] h = absurd (omega arith)
seat-entry x k (y ∷ l) h = go (eqb x y) (seat_of x l) refl (λ j. seat-entry x j l) k h
  where
    go : (b : Bool) (s : ℕ) → eqb x y ≡ b → ((j : ℕ) → s ≡ suc j → get_or l j 0 ≡ x)
        → (k : ℕ) → cond b 1 (further s) ≡ suc k → get_or (y ∷ l) k 0 ≡ x
    go true s e ih zero h = sym (eqb-true x y e)
    go true s e ih (suc k) h = absurd (omega arith)
    go false zero e ih k h = absurd (omega arith)
    go false (suc s) e ih zero h = absurd (omega arith)
    go false (suc s) e ih (suc k) h = ih k (omega arith)

-- what holds of each entry of a list holds of a number that stands there
pub of_entry_lem : (P : ℕ → Type 0) (l : List ℕ) → ((i : ℕ) → i < length l → P (get_or l i 0)) → (x : ℕ) → is_in x l ≡ true → P x
of_entry_lem P l each x h =
    let k = seat_of x l - 1 in
    let e : seat_of x l ≡ suc k = omega (arith, in-seat x l h) in
    subst P (seat-entry x k l e) (each k (omega (arith, seat-most x l)))

-- an entry of a list in which no two are equal has its position as its seat
pub entry-seat : (l : List ℕ) (i : ℕ) → distinct l ≡ true → i < length l → seat_of (get_or l i 0) l ≡ suc i
entry-seat [] i h k = absurd (omega arith)
entry-seat (x ∷ l) zero h k = seat-here x l
entry-seat (x ∷ l) (suc i) h k =
    let y = get_or l i 0 in
    let apart : y ≡ x → ⊥ = λ e. never (rw e at (entry_in l i (omega arith))) (once-head x l h) in
    seat-there y x l apart ∙ ap further (entry-seat l i (once-tail x l h) (omega arith))

-- a number that doesn't stand in a list is another than its first, and doesn't stand in the rest
out-cons : (x y : ℕ) (l : List ℕ) → is_in x (y ∷ l) ≡ false → (x ≡ y → ⊥) × (is_in x l ≡ false)
out-cons x y l h = go (eqb x y) refl (sym (in-cons x y l) ∙ h)
  where
    go : (b : Bool) → eqb x y ≡ b → (b || is_in x l) ≡ false → (x ≡ y → ⊥) × (is_in x l ≡ false)
    go true e h = absurd (never refl h)
    go false e h = (eqb-false x y e, h)

-- after such a list it has the next seat
pub seat-after : (x : ℕ) (a b : List ℕ) → is_in x a ≡ false → seat_of x (a ++ (x ∷ b)) ≡ suc (length a)
seat-after x [] b h = seat-here x b
seat-after x (y ∷ a) b h =
    let p = out-cons x y a h in
    seat-there x y (a ++ (x ∷ b)) p.0 ∙ ap further (seat-after x a b p.1)
