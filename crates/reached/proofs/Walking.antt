-- The whole walk, which passes a node as often as a way leads to it.
use mathlib.Core.Path.{◌≡◌, refl, sym, ap, ◌∙◌}
use mathlib.Core.Bool.{true, or-true}
use mathlib.Core.Logic.{◌⊎◌, ⊎_elim}
use mathlib.Core.List.{List, [], ◌∷◌, ◌++◌}
use Prim.Native.Nat.{ℕ, zero, suc, ◌≤◌, ◌<◌}
use native.Mathlib.Omega.{arith}
use native.Mathlib.Decide.{ℕ_discrete}
use native.Mathlib.Nat.{le_refl}
use borrow.Author.Tests.{eq-eqb, ne_eqb}
use lib.ListN.{length, get_or}
use lib.IntN.{ℤ, pos, nat_abs}
use Rattle.store.specs.Store.{Store, then_at, else_at}
use Rattle.store.specs.Rules.{Nodes}
use Rattle.store.specs.Growth.{EdgeOf}
use Rattle.store.specs.Firsts.{first_ones}
use Rattle.reached.specs.Walk.{walk_by, walk, first_met}
use Rattle.reached.specs.Meet.{is_in, linked, Descends, Walks}
use Rattle.reached.proofs.Entries.{never, in-here, in_rest, in-append}
use Rattle.reached.proofs.Members.{in-none, cons-cases, either, Among, Each, each_none, each-cons}

-- what a walk leans on: children that are lower numbers, never 0, of the nodes up to a count, and roots among these
pub record Leads (σ : Store) (count : ℕ) (roots : List ℤ) : Type 0 where
  pub descends : (n : ℕ) → 2 ≤ n → n ≤ count → Descends σ n
  pub roots_there : (i : ℕ) → i < length roots → Among count (nat_abs (get_or roots i (pos 0)))

abbrev pub walks-lead : {σ : Store} {roots : List ℤ} {met marks : ℕ} (w : Walks σ roots met marks) → Leads σ w.below.count roots
walks-lead w = record { descends = w.below.descends; roots_there = w.roots_there }

abbrev pub nodes-lead : {σ : Store} {roots : List ℤ} → Nodes σ → ((i : ℕ) → i < length roots → EdgeOf σ (get_or roots i (pos 0)))
    → Leads σ σ.count roots
nodes-lead N there = record {
  descends = λ n s t. let f = N.fits n s t in record {
    then_some = f.then_some;
    then_low = f.then_low;
    else_some = f.else_some;
    else_low = f.else_low;
  };
  roots_there = λ i h. ((there i h).some, (there i h).there);
}

-- the roots after the first
abbrev lead-rest : {σ : Store} {count : ℕ} {r : ℤ} {roots : List ℤ} → Leads σ count (r ∷ roots) → Leads σ count roots
lead-rest L = record { descends = L.descends; roots_there = λ i k. L.roots_there (suc i) (omega arith) }

-- a number of two lists is in one of them
append_cases : (x : ℕ) (a b : List ℕ) → is_in x (a ++ b) ≡ true → (is_in x a ≡ true) ⊎ (is_in x b ≡ true)
append_cases x a b h = either (is_in x a) (is_in x b) (sym (in-append x a b) ∙ h)

module _ (x : ℕ) (a b : List ℕ) where
  in_left : is_in x a ≡ true → is_in x (a ++ b) ≡ true
  in_left h = in-append x a b ∙ rw h

  in_right : is_in x b ≡ true → is_in x (a ++ b) ≡ true
  in_right h = in-append x a b ∙ rw (h, or-true (is_in x a))

-- The steps of the walk, by the number that counts them.
module _ (σ : Store) (f n : ℕ) where
  pub walk-last : n ≡ 1 → walk_by (suc f) σ n ≡ n ∷ []
  unfolding walk_by
  walk-last e = rw (eq-eqb n 1 e)

  pub walk-inner : (n ≡ 1 → ⊥) → walk_by (suc f) σ n ≡ n ∷ (walk_by f σ (nat_abs (then_at σ n)) ++ walk_by f σ (nat_abs (else_at σ n)))
  unfolding walk_by
  walk-inner e = rw (ne_eqb n 1 e)

-- a walk passes the node that it starts from
walk-self : (σ : Store) (f n : ℕ) → 1 ≤ f → is_in n (walk_by f σ n) ≡ true
unfolding walk_by
walk-self σ zero n h = absurd (omega arith)
walk-self σ (suc f) n h = in-here n _

module _ (σ : Store) (count : ℕ) (descends : (n : ℕ) → 2 ≤ n → n ≤ count → Descends σ n) where
  -- as many steps as a node's number are enough: more of them change nothing
  pub walk-enough : (f g n : ℕ) → 1 ≤ n → n ≤ count → n ≤ f → n ≤ g → walk_by f σ n ≡ walk_by g σ n
  walk-enough zero g n s t p q = absurd (omega arith)
  walk-enough (suc f) zero n s t p q = absurd (omega arith)
  walk-enough (suc f) (suc g) n s t p q = go (walk-enough f g) (ℕ_discrete n 1)
    where
      go : ((k : ℕ) → 1 ≤ k → k ≤ count → k ≤ f → k ≤ g → walk_by f σ k ≡ walk_by g σ k) → Dec (n ≡ 1) → walk_by (suc f) σ n ≡ walk_by (suc g) σ n
      go under (yes e) = walk-last σ f n e ∙ sym (walk-last σ g n e)
      go under (no e) =
          let d = descends n (omega (arith, e)) t in
          let a = under (nat_abs (then_at σ n)) d.then_some (omega arith) (omega arith) (omega arith) in
          let b = under (nat_abs (else_at σ n)) d.else_some (omega arith) (omega arith) (omega arith) in
          walk-inner σ f n e ∙ rw (a, b) (sym (walk-inner σ g n e))

  -- what lies under a node that a walk passes is passed by it
  pub walk-under : (f n x y : ℕ) → 1 ≤ n → n ≤ count → n ≤ f → is_in x (walk_by f σ n) ≡ true → is_in y (walk_by x σ x) ≡ true
      → is_in y (walk_by f σ n) ≡ true
  walk-under zero n x y s t p h k = absurd (omega arith)
  walk-under (suc f) n x y s t p h k = go (λ m. walk-under f m x y) (ℕ_discrete n 1)
    where
      here : x ≡ n → is_in y (walk_by (suc f) σ n) ≡ true
      here e = rw (← walk-enough n (suc f) n s t (le_refl n) p) (rw e at k)

      go : ((m : ℕ) → 1 ≤ m → m ≤ count → m ≤ f → is_in x (walk_by f σ m) ≡ true → is_in y (walk_by x σ x) ≡ true → is_in y (walk_by f σ m) ≡ true)
          → Dec (n ≡ 1) → is_in y (walk_by (suc f) σ n) ≡ true
      go under (yes e) =
          ⊎_elim here (λ q. absurd (never q (in-none x))) (cons-cases x n [] (rw (walk-last σ f n e) at h))
      go under (no e) =
          let d = descends n (omega (arith, e)) t in
          let a = walk_by f σ (nat_abs (then_at σ n)) in
          let b = walk_by f σ (nat_abs (else_at σ n)) in
          let left : is_in x a ≡ true → is_in y (a ++ b) ≡ true = λ q. in_left y a b (under _ d.then_some (omega arith) (omega arith) q k) in
          let right : is_in x b ≡ true → is_in y (a ++ b) ≡ true = λ q. in_right y a b (under _ d.else_some (omega arith) (omega arith) q k) in
          ⊎_elim here (λ q. rw (walk-inner σ f n e) (in_rest y n (a ++ b) (⊎_elim left right (append_cases x a b q))))
          (cons-cases x n (a ++ b) (rw (walk-inner σ f n e) at h))

  -- What holds of a node, and of the children of each of which it holds, holds of all that a walk passes.
  walk-each : (P : ℕ → Type 0) → ((n : ℕ) → 2 ≤ n → P n → P (nat_abs (then_at σ n)) × P (nat_abs (else_at σ n)))
      → (f n : ℕ) → 1 ≤ n → n ≤ count → P n → Each P (walk_by f σ n)
  unfolding walk_by
  walk-each P under zero n s t w = each_none P
  walk-each P under (suc f) n s t w = go (walk-each P under f) (ℕ_discrete n 1)
    where
      go : ((k : ℕ) → 1 ≤ k → k ≤ count → P k → Each P (walk_by f σ k)) → Dec (n ≡ 1) → Each P (walk_by (suc f) σ n)
      go ih (yes e) = rw (walk-last σ f n e) (each-cons P n [] w (each_none P))
      go ih (no e) =
          let d = descends n (omega (arith, e)) t in
          let c = under n (omega (arith, e)) w in
          let a = ih (nat_abs (then_at σ n)) d.then_some (omega arith) c.0 in
          let b = ih (nat_abs (else_at σ n)) d.else_some (omega arith) c.1 in
          rw (walk-inner σ f n e) (each-cons P n _ w (λ x h. ⊎_elim (a x) (b x) (append_cases x _ _ h)))

-- The walk from all roots.
module _ (σ : Store) (count : ℕ) where
  -- what holds of the roots' nodes, and of the children of each of which it holds, holds of all that it passes
  pub each-walked : (P : ℕ → Type 0) → ((n : ℕ) → 2 ≤ n → P n → P (nat_abs (then_at σ n)) × P (nat_abs (else_at σ n)))
      → (roots : List ℤ) → Leads σ count roots → ((i : ℕ) → i < length roots → P (nat_abs (get_or roots i (pos 0)))) → Each P (walk σ roots)
  unfolding walk
  each-walked P under [] L h = each_none P
  each-walked P under (r ∷ roots) L h =
      let n = L.roots_there 0 (omega arith) in
      let a = walk-each σ count L.descends P under (nat_abs r) (nat_abs r) n.0 n.1 (h 0 (omega arith)) in
      let b = each-walked P under roots (lead-rest L) (λ i k. h (suc i) (omega arith)) in
      λ x q. ⊎_elim (a x) (b x) (append_cases x _ _ q)

  -- it passes each root's node
  pub root-walked : (roots : List ℤ) → Leads σ count roots → (i : ℕ) → i < length roots → is_in (nat_abs (get_or roots i (pos 0))) (walk σ roots) ≡ true
  unfolding walk
  root-walked [] L i h = absurd (omega arith)
  root-walked (r ∷ roots) L zero h = in_left (nat_abs r) _ _ (walk-self σ (nat_abs r) (nat_abs r) (L.roots_there 0 h).0)
  root-walked (r ∷ roots) L (suc i) h = in_right _ (walk_by (nat_abs r) σ (nat_abs r)) (walk σ roots) (root-walked roots (lead-rest L) i (omega arith))

  -- and what lies under a node that it passes
  pub under-walked : (roots : List ℤ) → Leads σ count roots → (x y : ℕ) → is_in x (walk σ roots) ≡ true → is_in y (walk_by x σ x) ≡ true
      → is_in y (walk σ roots) ≡ true
  unfolding walk
  under-walked [] L x y h k = absurd (never h (in-none x))
  under-walked (r ∷ roots) L x y h k =
      let n = L.roots_there 0 (omega arith) in
      let a = walk_by (nat_abs r) σ (nat_abs r) in
      let b = walk σ roots in
      ⊎_elim
      (λ q. in_left y a b (walk-under σ count L.descends (nat_abs r) (nat_abs r) x y n.0 n.1 (le_refl (nat_abs r)) q k))
      (λ q. in_right y a b (under-walked roots (lead-rest L) x y q k))
      (append_cases x a b h)

  module _ (descends : (n : ℕ) → 2 ≤ n → n ≤ count → Descends σ n) (n : ℕ) (two : 2 ≤ n) (there : n ≤ count) where
    -- the children of a node lie under it
    children-under : (is_in (nat_abs (then_at σ n)) (walk_by n σ n) ≡ true) × (is_in (nat_abs (else_at σ n)) (walk_by n σ n) ≡ true)
    children-under =
        let a = walk_by n σ (nat_abs (then_at σ n)) in
        let b = walk_by n σ (nat_abs (else_at σ n)) in
        rw (walk-enough σ count descends n (suc n) n (omega arith) there (le_refl n) (omega arith), walk-inner σ n n (λ e. omega arith)) (
          in_rest _ n (a ++ b) (in_left _ a b (walk-self σ n (nat_abs (then_at σ n)) (omega arith))),
          in_rest _ n (a ++ b) (in_right _ a b (walk-self σ n (nat_abs (else_at σ n)) (omega arith))),
        )

    -- so they are passed where it is
    pub children-walked : (roots : List ℤ) → Leads σ count roots → is_in n (walk σ roots) ≡ true
        → (is_in (nat_abs (then_at σ n)) (walk σ roots) ≡ true) × (is_in (nat_abs (else_at σ n)) (walk σ roots) ≡ true)
    children-walked roots L h =
        let c = children-under in
        (under-walked roots L n _ h c.0, under-walked roots L n _ h c.1)

-- A walk looks at no more of a store than its then and else.
module _ (σ : Store) where
  by-linked : (f n : ℕ) → walk_by f (linked σ) n ≡ walk_by f σ n
  unfolding walk_by
  by-linked zero n = refl
  by-linked (suc f) n = rw (by-linked f (nat_abs (then_at σ n)), by-linked f (nat_abs (else_at σ n)))

  walk-linked : (roots : List ℤ) → walk (linked σ) roots ≡ walk σ roots
  unfolding walk
  walk-linked [] = refl
  walk-linked (r ∷ roots) = rw (by-linked (nat_abs r) (nat_abs r), walk-linked roots)

  pub first-linked : (roots : List ℤ) → first_met (linked σ) roots ≡ first_met σ roots
  unfolding first_met
  first-linked roots = ap first_ones (walk-linked roots)
