-- The walk that passes over what it has met, step by step.
use mathlib.Core.Path.{◌≡◌, refl, sym, ap, ◌∙◌}
use mathlib.Core.Bool.{Bool, true, false}
use mathlib.Core.List.{List, [], ◌∷◌, ◌++◌}
use Prim.Native.Nat.{ℕ, zero, suc, ◌≤◌}
use native.Mathlib.Omega.{arith}
use native.Mathlib.Decide.{ℕ_discrete}
use native.Mathlib.Nat.{le_refl}
use borrow.Author.Tests.{eq-eqb, ne_eqb}
use lib.ListN.{length, length-append}
use lib.IntN.{nat_abs}
use Rattle.store.specs.Store.{Store, then_at, else_at}
use Rattle.reached.specs.Meet.{is_in, meet_by, meet, Descends}
use Rattle.reached.proofs.Members.{before-in}

-- A node was met before, or is the terminal, or has children.
pub data Case (met : List ℕ) (n : ℕ) : Type 0 where
  old : is_in n met ≡ true → Case met n
  last : is_in n met ≡ false → n ≡ 1 → Case met n
  inner : is_in n met ≡ false → (n ≡ 1 → ⊥) → Case met n

pub case : (met : List ℕ) (n : ℕ) → Case met n
case met n = go (is_in n met) refl (ℕ_discrete n 1)
  where
    go : (b : Bool) → is_in n met ≡ b → Dec (n ≡ 1) → Case met n
    go true h e = old h
    go false h (yes e) = last h e
    go false h (no e) = inner h e

-- The steps of a walk, by the number that counts them.
module _ (σ : Store) (f : ℕ) (met : List ℕ) (n : ℕ) where
  pub by_old : is_in n met ≡ true → meet_by (suc f) σ met n ≡ met
  unfolding meet_by
  by_old h = rw (h, meet_by)

  pub by_last : is_in n met ≡ false → n ≡ 1 → meet_by (suc f) σ met n ≡ met ++ (n ∷ [])
  unfolding meet_by
  by_last h e = rw (h, meet_by, eq-eqb n 1 e)

  pub by-inner : is_in n met ≡ false → (n ≡ 1 → ⊥)
      → meet_by (suc f) σ met n ≡ meet_by f σ (meet_by f σ (met ++ (n ∷ [])) (nat_abs (then_at σ n))) (nat_abs (else_at σ n))
  unfolding meet_by
  by-inner h e = rw (h, meet_by, ne_eqb n 1 e)

module _ (σ : Store) where
  -- what was met stays met
  by-kept : (f : ℕ) (met : List ℕ) (n x : ℕ) → is_in x met ≡ true → is_in x (meet_by f σ met n) ≡ true
  unfolding meet_by
  by-kept zero met n x h = h
  by-kept (suc f) met n x h = go (by-kept f) (case met n)
    where
      go : ((m : List ℕ) (k y : ℕ) → is_in y m ≡ true → is_in y (meet_by f σ m k) ≡ true) → Case met n → is_in x (meet_by (suc f) σ met n) ≡ true
      go under (old p) = rw (by_old σ f met n p) h
      go under (last p e) = rw (by_last σ f met n p e) (before-in x n met h)
      go under (inner p e) = rw (by-inner σ f met n p e) (under _ _ x (under _ _ x (before-in x n met h)))

  pub meet-kept : (met : List ℕ) (n x : ℕ) → is_in x met ≡ true → is_in x (meet σ met n) ≡ true
  unfolding meet
  meet-kept met n x h = by-kept n met n x h

  -- so there is no less of it
  by-longer : (f : ℕ) (met : List ℕ) (n : ℕ) → length met ≤ length (meet_by f σ met n)
  unfolding meet_by
  by-longer zero met n = le_refl (length met)
  by-longer (suc f) met n = go (by-longer f) (case met n)
    where
      go : ((m : List ℕ) (k : ℕ) → length m ≤ length (meet_by f σ m k)) → Case met n → length met ≤ length (meet_by (suc f) σ met n)
      go under (old p) = rw (by_old σ f met n p) (le_refl (length met))
      go under (last p e) = rw (by_last σ f met n p e) (omega (arith, length-append met (n ∷ [])))
      go under (inner p e) =
          let with = met ++ (n ∷ []) in
          let t = nat_abs (then_at σ n) in
          rw (by-inner σ f met n p e) (omega (arith, length-append met (n ∷ []), under with t, under (meet_by f σ with t) (nat_abs (else_at σ n))))

  pub meet-longer : (met : List ℕ) (n : ℕ) → length met ≤ length (meet σ met n)
  unfolding meet
  meet-longer met n = by-longer n met n

  -- a node that was met before is passed over
  pub meet-old : (met : List ℕ) (n : ℕ) → is_in n met ≡ true → meet σ met n ≡ met
  unfolding meet meet_by
  meet-old met zero h = refl
  meet-old met (suc f) h = by_old σ f met (suc f) h

-- Where the children of the nodes up to a count are lower numbers, never 0.
module _ (σ : Store) (count : ℕ) (descends : (n : ℕ) → 2 ≤ n → n ≤ count → Descends σ n) where
  -- as many steps as a node's number are enough: more of them change nothing
  enough : (f g : ℕ) (met : List ℕ) (n : ℕ) → 1 ≤ n → n ≤ count → n ≤ f → n ≤ g → meet_by f σ met n ≡ meet_by g σ met n
  enough zero g met n s t p q = absurd (omega arith)
  enough (suc f) zero met n s t p q = absurd (omega arith)
  enough (suc f) (suc g) met n s t p q = go (enough f g) (case met n)
    where
      go : ((m : List ℕ) (k : ℕ) → 1 ≤ k → k ≤ count → k ≤ f → k ≤ g → meet_by f σ m k ≡ meet_by g σ m k)
          → Case met n → meet_by (suc f) σ met n ≡ meet_by (suc g) σ met n
      go under (old h) = by_old σ f met n h ∙ sym (by_old σ g met n h)
      go under (last h e) = by_last σ f met n h e ∙ sym (by_last σ g met n h e)
      go under (inner h e) =
          let d = descends n (omega (arith, e)) t in
          by-inner σ f met n h e
          ∙ under _ (nat_abs (else_at σ n)) d.else_some (omega arith) (omega arith) (omega arith)
          ∙ ap (λ m. meet_by g σ m (nat_abs (else_at σ n))) (under _ (nat_abs (then_at σ n)) d.then_some (omega arith) (omega arith) (omega arith))
          ∙ sym (by-inner σ g met n h e)

  module _ (met : List ℕ) (n : ℕ) (s : 1 ≤ n) (t : n ≤ count) where
    -- one step more than enough
    meet-step : meet σ met n ≡ meet_by (suc n) σ met n
    unfolding meet
    meet-step = enough n (suc n) met n s t (le_refl n) (omega arith)

    -- the terminal is met
    pub meet-last : is_in n met ≡ false → n ≡ 1 → meet σ met n ≡ met ++ (n ∷ [])
    meet-last h e = meet-step ∙ by_last σ n met n h e

    -- any other node is met, and then all under its then, and then all under its else
    pub meet-inner : is_in n met ≡ false → (n ≡ 1 → ⊥)
        → meet σ met n ≡ meet σ (meet σ (met ++ (n ∷ [])) (nat_abs (then_at σ n))) (nat_abs (else_at σ n))
    unfolding meet
    meet-inner h e =
        let d = descends n (omega (arith, e)) t in
        meet-step
        ∙ by-inner σ n met n h e
        ∙ enough n _ _ (nat_abs (else_at σ n)) d.else_some (omega arith) (omega arith) (le_refl _)
        ∙ ap (λ m. meet σ m (nat_abs (else_at σ n))) (enough n _ _ (nat_abs (then_at σ n)) d.then_some (omega arith) (omega arith) (le_refl _))
