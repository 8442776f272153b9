-- Lists in which new numbers come in their order: each entry is at most the count so far, or the next number.
use mathlib.Core.Path.{◌≡◌, refl, sym, ap, ◌∙◌}
use mathlib.Core.Bool.{Bool, true, false, cond}
use mathlib.Core.List.{List, [], ◌∷◌, ◌++◌}
use Prim.Native.Nat.{ℕ, suc, ◌-◌, ◌≤◌, ◌<◌}
use native.Mathlib.Omega.{arith}
use native.Mathlib.Nat.{le_refl}
use native.Mathlib.Decide.{ℕ_discrete}
use lib.Dec.{eqb, ltb}
use borrow.Author.Tests.{eqb-true, eq-eqb, ne_eqb, ltb-true, ltb-false, lt-ltb, le-ltb}
use Rattle.store.specs.Firsts.{without, first_ones}
use Rattle.joined.specs.Order.{lacked, next_numbers}

-- from count c to count d
pub data Coming : ℕ → List ℕ → ℕ → Type 0 where
  done : {c : ℕ} → Coming c [] c
  old : {c d x : ℕ} {l : List ℕ} → x ≤ c → Coming c l d → Coming c (x ∷ l) d
  new : {c d : ℕ} {l : List ℕ} → Coming (suc c) l d → Coming c (suc c ∷ l) d

-- one list after another
pub coming-append : {c d e : ℕ} {k l : List ℕ} → Coming c k d → Coming d l e → Coming c (k ++ l) e
coming-append done B = B
coming-append (old h A) B = old h (coming-append A B)
coming-append (new A) B = new (coming-append A B)

-- something holds of each entry
pub data Every (P : ℕ → Type 0) : List ℕ → Type 0 where
  none : Every P []
  one : {x : ℕ} {l : List ℕ} → P x → Every P l → Every P (x ∷ l)

pub every_append : {P : ℕ → Type 0} {k l : List ℕ} → Every P k → Every P l → Every P (k ++ l)
every_append none B = B
every_append (one p A) B = one p (every_append A B)

pub every_more : {P Q : ℕ → Type 0} {l : List ℕ} → ((x : ℕ) → P x → Q x) → Every P l → Every Q l
every_more f none = none
every_more f (one p A) = one (f _ p) (every_more f A)

-- no new number
pub coming-old : {c : ℕ} {l : List ℕ} → Every (λ x. x ≤ c) l → Coming c l c
coming-old none = done
coming-old (one h A) = old h (coming-old A)

coming-less : {c d : ℕ} {l : List ℕ} → Coming c l d → c ≤ d
coming-less {c} done = le_refl c
coming-less (old h A) = coming-less A
coming-less (new A) = omega (arith, coming-less A)

-- where all are old the count stays
pub coming-kept : {c d : ℕ} {l : List ℕ} → Coming c l d → Every (λ x. x ≤ c) l → d ≡ c
coming-kept done B = refl
coming-kept (old h A) (one p B) = coming-kept A B
coming-kept (new A) (one p B) = absurd (omega arith)

-- the new numbers are entries
pub coming-every : {P : ℕ → Type 0} {c d : ℕ} {l : List ℕ} → Coming c l d → Every P l → (n : ℕ) → c < n → n ≤ d → P n
coming-every done B n p q = absurd (omega arith)
coming-every (old h A) (one x B) n p q = coming-every A B n p q
coming-every {P} {c} (new A) (one x B) n p q = go (ℕ_discrete n (suc c)) (λ h. coming-every A B n h q)
  where
    go : Dec (n ≡ suc c) → (suc c < n → P n) → P n
    go (yes e) f = rw e x
    go (no e) f = f (omega arith)

-- Without a number twice is without it once, and the order of two doesn't matter.
without-twice : (n : ℕ) (l : List ℕ) → without n (without n l) ≡ without n l
unfolding without
without-twice n [] = refl
without-twice n (x ∷ l) = go (eqb x n) refl (without-twice n l)
  where
    go : (b : Bool) → eqb x n ≡ b → without n (without n l) ≡ without n l
        → without n (cond b (without n l) (x ∷ without n l)) ≡ cond b (without n l) (x ∷ without n l)
    go true e h = h
    go false e h = rw (e, h)

without-swap : (m n : ℕ) (l : List ℕ) → without m (without n l) ≡ without n (without m l)
unfolding without
without-swap m n [] = refl
without-swap m n (x ∷ l) = go (eqb x m) refl (eqb x n) refl (without-swap m n l)
  where
    go : (a : Bool) → eqb x m ≡ a → (b : Bool) → eqb x n ≡ b → without m (without n l) ≡ without n (without m l)
        → without m (cond b (without n l) (x ∷ without n l)) ≡ without n (cond a (without m l) (x ∷ without m l))
    go true p true q h = h
    go true p false q h = rw (p, h)
    go false p true q h = rw (q, h)
    go false p false q h = rw (p, q, h)

-- the first ones without a number are those of the list without it
firsts-without : (n : ℕ) (l : List ℕ) → first_ones (without n l) ≡ without n (first_ones l)
unfolding without first_ones
firsts-without n [] = refl
firsts-without n (x ∷ l) = go (eqb x n) refl (firsts-without n l)
  where
    go : (b : Bool) → eqb x n ≡ b → first_ones (without n l) ≡ without n (first_ones l)
        → first_ones (cond b (without n l) (x ∷ without n l))
        ≡ cond b (without n (without x (first_ones l))) (x ∷ without n (without x (first_ones l)))
    go true e h = h ∙ sym (rw (eqb-true x n e) (without-twice n (first_ones l)))
    go false e h = rw (h, without-swap x n (first_ones l))

-- what is beyond a count, without the next number, is beyond that
lacked-without : (c : ℕ) (l : List ℕ) → without (suc c) (lacked c l) ≡ lacked (suc c) l
unfolding without lacked
lacked-without c [] = refl
lacked-without c (x ∷ l) = go (ltb c x) refl (ltb (suc c) x) refl (lacked-without c l)
  where
    go : (a : Bool) → ltb c x ≡ a → (b : Bool) → ltb (suc c) x ≡ b → without (suc c) (lacked c l) ≡ lacked (suc c) l
        → without (suc c) (cond a (x ∷ lacked c l) (lacked c l)) ≡ cond b (x ∷ lacked (suc c) l) (lacked (suc c) l)
    go true p true q h = let y = ltb-true (suc c) x q in rw (ne_eqb x (suc c) (λ e. omega arith), h)
    go true p false q h =
        let y = ltb-true c x p in
        let z = ltb-false (suc c) x q in
        rw (eq-eqb x (suc c) (omega arith)) h
    go false p true q h = let y = ltb-false c x p in let z = ltb-true (suc c) x q in absurd (omega arith)
    go false p false q h = h

-- So what the list has beyond the count are the next numbers, in their order.
pub coming-firsts : {c d : ℕ} {l : List ℕ} → Coming c l d → first_ones (lacked c l) ≡ next_numbers c (d - c)
unfolding first_ones lacked next_numbers
coming-firsts {c} done = let q : c - c ≡ 0 = omega arith in rw q
coming-firsts {c} (old {x = x} h A) = rw (le-ltb c x h) (coming-firsts A)
coming-firsts {c} {d} (new {l = l} A) =
    let q : d - c ≡ suc (d - suc c) = omega (arith, coming-less A) in
    rw (lt-ltb c (suc c) (omega arith), q)
    (ap (λ t. suc c ∷ t) (sym (firsts-without (suc c) (lacked c l)) ∙ ap first_ones (lacked-without c l) ∙ coming-firsts A))
