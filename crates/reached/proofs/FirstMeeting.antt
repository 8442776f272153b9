-- A walk that passes over what it has met, with all under it, meets the nodes of the whole walk, each where that first comes to it.
use mathlib.Core.Path.{◌≡◌, refl, sym, ap, ◌∙◌}
use mathlib.Core.Bool.{true, cond, or-true}
use mathlib.Core.Logic.{⊎_elim}
use mathlib.Core.List.{List, [], ◌∷◌, ◌++◌, append-nil, append_assoc}
use Prim.Native.Nat.{ℕ, zero, suc, ◌≤◌, ◌<◌}
use native.Mathlib.Omega.{arith}
use native.Mathlib.Nat.{le_refl}
use lib.IntN.{ℤ, nat_abs}
use Rattle.store.specs.Store.{Store, then_at, else_at}
use Rattle.store.specs.Firsts.{first_ones}
use Rattle.reached.specs.Walk.{walk_by, walk, first_met}
use Rattle.reached.specs.Meet.{is_in, meet_by, meet, Descends}
use Rattle.reached.proofs.Members.{before-in, more-cases, either}
use Rattle.reached.proofs.Firsts.{joining, joining-firsts, joining-append, in-joining, joining-old, in-firsts}
use Rattle.reached.proofs.Walking.{Leads, walk-last, walk-inner, walk-enough, walk-under, under-walked}
use Rattle.reached.proofs.Steps.{Case, old, last, inner, case, by_old, by_last, by-inner}

-- all under the nodes of a list up to a number are in it
abbrev Whole : Store → List ℕ → ℕ → Type 0
Whole σ met n = (x : ℕ) → is_in x met ≡ true → x ≤ n → (y : ℕ) → is_in y (walk_by x σ x) ≡ true → is_in y met ≡ true

module _ (σ : Store) (count : ℕ) (descends : (n : ℕ) → 2 ≤ n → n ≤ count → Descends σ n) where
  -- What a list holds with a node more, and then with what a walk passes, where all under its nodes up to that one are in it: all under
  -- those of a lower number still are.
  module _ (met : List ℕ) (n : ℕ) (w : Whole σ met n) where
    whole-lower : (k : ℕ) → k < n → Whole σ (met ++ (n ∷ [])) k
    whole-lower k q x h l y u =
        ⊎_elim (λ z. before-in y n met (w x z (omega arith) y u)) (λ z. absurd (omega arith)) (more-cases x n met h)

    whole-after : (f t k : ℕ) → 1 ≤ t → t ≤ count → t ≤ f → k < n → Whole σ (joining (met ++ (n ∷ [])) (walk_by f σ t)) k
    whole-after f t k s p q r x h l y u =
        let with = met ++ (n ∷ []) in
        let a = walk_by f σ t in
        ⊎_elim
        (λ z. in-joining y with a ∙ rw (whole-lower k r x z l y u))
        (λ z. in-joining y with a ∙ rw (walk-under σ count descends f t x y s p q z u, or-true (is_in y with)))
        (either (is_in x with) (is_in x a) (sym (in-joining x with a) ∙ h))

  -- what is met after a node is what was met, joined by what the whole walk passes
  by-joining : (f : ℕ) (met : List ℕ) (n : ℕ) → 1 ≤ n → n ≤ count → n ≤ f → Whole σ met n → meet_by f σ met n ≡ joining met (walk_by f σ n)
  unfolding joining
  by-joining zero met n s t p w = absurd (omega arith)
  by-joining (suc f) met n s t p w = go (by-joining f) (case met n)
    where
      go : ((m : List ℕ) (k : ℕ) → 1 ≤ k → k ≤ count → k ≤ f → Whole σ m k → meet_by f σ m k ≡ joining m (walk_by f σ k))
          → Case met n → meet_by (suc f) σ met n ≡ joining met (walk_by (suc f) σ n)
      go under (old h) =
          let whole = walk-enough σ count descends n (suc f) n s t (le_refl n) p in
          by_old σ f met n h ∙ sym (joining-old met (walk_by (suc f) σ n) (λ y k. w n h (le_refl n) y (rw (← whole) at k)))
      go under (last h e) = by_last σ f met n h e ∙ rw (walk-last σ f n e, h)
      go under (inner h e) =
          let d = descends n (omega (arith, e)) t in
          let x = nat_abs (then_at σ n) in
          let y = nat_abs (else_at σ n) in
          let a = walk_by f σ x in
          let with = met ++ (n ∷ []) in
          by-inner σ f met n h e
          ∙ ap (λ m. meet_by f σ m y) (under with x d.then_some (omega arith) (omega arith) (whole-lower met n w x d.then_low))
          ∙ under (joining with a) y d.else_some (omega arith) (omega arith)
          (whole-after met n w f x y d.then_some (omega arith) (omega arith) d.else_low)
          ∙ sym (joining-append with a (walk_by f σ y))
          ∙ sym (ap (joining met) (walk-inner σ f n e) ∙ ap (λ b. joining (cond b met with) (a ++ walk_by f σ y)) h)

-- the walk from one root more
walk_more : (σ : Store) (roots : List ℤ) (r : ℤ) → walk σ (roots ++ (r ∷ [])) ≡ walk σ roots ++ walk_by (nat_abs r) σ (nat_abs r)
unfolding walk
walk_more σ [] r = append-nil (walk_by (nat_abs r) σ (nat_abs r))
walk_more σ (s ∷ roots) r = rw (walk_more σ roots r) (sym (append_assoc (walk_by (nat_abs s) σ (nat_abs s)) (walk σ roots) (walk_by (nat_abs r) σ (nat_abs r))))

-- no root leads nowhere
pub first-none : (σ : Store) → first_met σ [] ≡ []
unfolding first_met walk first_ones
first-none σ = refl

-- Of one root more the walk meets what it hasn't met, after what it has.
pub first_more : (σ : Store) (count : ℕ) (roots : List ℤ) (r : ℤ) → Leads σ count roots → 1 ≤ nat_abs r → nat_abs r ≤ count
    → first_met σ (roots ++ (r ∷ [])) ≡ meet σ (first_met σ roots) (nat_abs r)
unfolding first_met meet
first_more σ count roots r L s t =
    let n = nat_abs r in
    let whole : Whole σ (first_ones (walk σ roots)) n =
    λ x h l y u. in-firsts (walk σ roots) y ∙ under-walked σ count roots L x y (sym (in-firsts (walk σ roots) x) ∙ h) u in
    rw (walk_more σ roots r, ← joining-firsts (walk σ roots ++ walk_by n σ n), joining-append [] (walk σ roots) (walk_by n σ n), joining-firsts (walk σ roots))
    (sym (by-joining σ count L.descends n (first_ones (walk σ roots)) n s t (le_refl n) whole))
