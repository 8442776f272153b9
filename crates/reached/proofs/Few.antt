-- How many numbers from 1 to k a list may have in which none stands twice.
use mathlib.Core.Path.{◌≡◌, refl, ap, ◌∙◌}
use mathlib.Core.Bool.{Bool, true, false, cond}
use mathlib.Core.List.{List, [], ◌∷◌}
use Prim.Native.Nat.{ℕ, zero, suc, ◌≤◌, ◌<◌}
use native.Mathlib.Omega.{arith}
use native.Mathlib.Decide.{ℕ_discrete}
use borrow.Author.Tests.{ne_eqb}
use lib.ListN.{length}
use Rattle.seats.specs.Ordered.{distinct}
use Rattle.reached.specs.Meet.{is_in}
use Rattle.reached.proofs.Entries.{in-cons, in-here, in_rest, once-head, once-tail}
use Rattle.reached.proofs.Members.{Among, Each}

-- how many of the numbers from 1 to k are in a list
tally : ℕ → List ℕ → ℕ
tally zero l = 0
tally (suc k) l = cond (is_in (suc k) l) (suc (tally k l)) (tally k l)

-- no more than there are
tally-most : (k : ℕ) (l : List ℕ) → tally k l ≤ k
unfolding tally
tally-most zero l = omega arith
tally-most (suc k) l = go (is_in (suc k) l) (tally-most k l)
  where
    go : (b : Bool) → tally k l ≤ k → cond b (suc (tally k l)) (tally k l) ≤ suc k
    go true h = omega arith
    go false h = omega arith

module _ (x : ℕ) (l : List ℕ) where
  -- a number beyond k isn't one of them
  tally-beyond : (k : ℕ) → k < x → tally k (x ∷ l) ≡ tally k l
  unfolding tally
  tally-beyond zero h = refl
  tally-beyond (suc k) h =
      let p : suc k ≡ x → ⊥ = omega arith in
      rw (in-cons (suc k) x l, ne_eqb (suc k) x p, tally-beyond k (omega arith))

  -- a new one up to k is one more
  tally-new : (k : ℕ) → Among k x → is_in x l ≡ false → tally k (x ∷ l) ≡ suc (tally k l)
  unfolding tally
  tally-new zero h e = absurd (omega arith)
  tally-new (suc k) h e = go (ℕ_discrete (suc k) x) (λ r. tally-new k (h.0, r) e)
    where
      both_ways : (b : Bool) (n : ℕ) → cond b (suc (suc n)) (suc n) ≡ suc (cond b (suc n) n)
      both_ways true n = refl
      both_ways false n = refl

      go : Dec (suc k ≡ x) → (x ≤ k → tally k (x ∷ l) ≡ suc (tally k l)) → tally (suc k) (x ∷ l) ≡ suc (tally (suc k) l)
      go (yes q) r = rw (ap (λ n. is_in n (x ∷ l)) q ∙ in-here x l, ap (λ n. is_in n l) q ∙ e, tally-beyond k (omega arith))
      go (no q) r = rw (in-cons (suc k) x l, ne_eqb (suc k) x q, r (omega (arith, q))) (both_ways (is_in (suc k) l) (tally k l))

-- without one that stands twice each entry is one of them
tally-all : (k : ℕ) (l : List ℕ) → Each (Among k) l → distinct l ≡ true → length l ≤ tally k l
tally-all k [] a h = omega arith
tally-all k (x ∷ l) a h =
    let r = tally-all k l (λ y q. a y (in_rest y x l q)) (once-tail x l h) in
    omega (arith, tally-new x l k (a x (in-here x l)) (once-head x l h))

-- so there are k entries at most
pub few : (k : ℕ) (l : List ℕ) → Each (Among k) l → distinct l ≡ true → length l ≤ k
few k l a h = omega (arith, tally-most k l, tally-all k l a h)
