-- The nodes that a node leads to: where they lie, and that they are the same in a store that has grown.
use mathlib.Core.Path.{◌≡◌, refl, sym, ap, ap₂, ◌∙◌}
use mathlib.Core.List.{[], ◌∷◌, ◌++◌}
use Prim.Native.Nat.{ℕ, zero, suc, ◌≤◌, ◌<◌}
use native.Mathlib.Omega.{arith}
use native.Mathlib.Nat.{le_refl}
use native.Mathlib.Decide.{ℕ_discrete}
use lib.IntN.{ℤ, nat_abs}
use borrow.Author.Tests.{eq-eqb, ne_eqb}
use Rattle.store.specs.Store.{Store, then_at, else_at}
use Rattle.store.specs.Rules.{depth, Nodes}
use Rattle.store.specs.Growth.{EdgeOf, Grows}
use Rattle.store.proofs.Meaning.{depth-node}
use Rattle.joined.specs.Order.{nodes_by, nodes_under}
use Rattle.joined.proofs.Coming.{Every, none, one, every_append, every_more}

-- the definition's two equations
module _ (σ : Store) (f n : ℕ) where
  nodes-last : n ≡ 1 → nodes_by (suc f) σ n ≡ n ∷ []
  unfolding nodes_by
  nodes-last q = rw (eq-eqb n 1 q)

  nodes-inner : 2 ≤ n → nodes_by (suc f) σ n ≡ (nodes_by f σ (nat_abs (then_at σ n)) ++ nodes_by f σ (nat_abs (else_at σ n))) ++ (n ∷ [])
  unfolding nodes_by
  nodes-inner h = rw (ne_eqb n 1 (λ q. omega arith))

-- node k is one that node n leads to, at most as high
pub record Under (σ : Store) (n k : ℕ) : Type 0 where
  pub low : k ≤ n
  pub deep : depth σ n ≤ depth σ k

under-child : (σ : Store) (n c k : ℕ) → c < n → depth σ n < depth σ c → Under σ c k → Under σ n k
under-child σ n c k p q U = record { low = omega (arith, U.low); deep = omega (arith, U.deep) }

module _ (σ : Store) (N : Nodes σ) where
  -- each node is so
  by-under : (f n : ℕ) → n ≤ σ.count → 1 ≤ n → Every (Under σ n) (nodes_by f σ n)
  unfolding nodes_by
  by-under zero n h p = none
  by-under (suc f) n h p = go (by-under f) (ℕ_discrete n 1)
    where
      self : Every (Under σ n) (n ∷ [])
      self = one (record { low = le_refl n; deep = le_refl (depth σ n) }) none

      go : ((k : ℕ) → k ≤ σ.count → 1 ≤ k → Every (Under σ k) (nodes_by f σ k)) → Dec (n ≡ 1) → Every (Under σ n) (nodes_by (suc f) σ n)
      go I (yes q) = rw (nodes-last σ f n q) self
      go I (no q) =
          let two : 2 ≤ n = omega (arith, q) in
          let F = N.fits n two h in
          let t : ℕ = nat_abs (then_at σ n) in
          let e : ℕ = nat_abs (else_at σ n) in
          let d = depth-node σ n two in
          rw (nodes-inner σ f n two) (every_append (every_append
          (every_more (λ k U. under-child σ n t k F.then_low (rw d F.then_deep) U) (I t (omega (arith, F.then_low)) F.then_some))
          (every_more (λ k U. under-child σ n e k F.else_low (rw d F.else_deep) U) (I e (omega (arith, F.else_low)) F.else_some))) self)

  pub nodes-under : (x : ℤ) → EdgeOf σ x → Every (Under σ (nat_abs x)) (nodes_under σ x)
  unfolding nodes_under
  nodes-under x E = by-under (nat_abs x) (nat_abs x) E.there E.some

  -- more steps than a node's number change nothing
  by-steps : (f g n : ℕ) → n ≤ f → n ≤ g → n ≤ σ.count → 1 ≤ n → nodes_by f σ n ≡ nodes_by g σ n
  by-steps zero g n p q h s = absurd (omega arith)
  by-steps (suc f) zero n p q h s = absurd (omega arith)
  by-steps (suc f) (suc g) n p q h s = go (by-steps f g) (ℕ_discrete n 1)
    where
      go : ((k : ℕ) → k ≤ f → k ≤ g → k ≤ σ.count → 1 ≤ k → nodes_by f σ k ≡ nodes_by g σ k) → Dec (n ≡ 1)
          → nodes_by (suc f) σ n ≡ nodes_by (suc g) σ n
      go I (yes z) = nodes-last σ f n z ∙ sym (nodes-last σ g n z)
      go I (no z) =
          let two : 2 ≤ n = omega (arith, z) in
          let F = N.fits n two h in
          nodes-inner σ f n two
          ∙ ap₂ (λ k l. (k ++ l) ++ (n ∷ []))
          (I (nat_abs (then_at σ n)) (omega (arith, F.then_low)) (omega (arith, F.then_low)) (omega (arith, F.then_low)) F.then_some)
          (I (nat_abs (else_at σ n)) (omega (arith, F.else_low)) (omega (arith, F.else_low)) (omega (arith, F.else_low)) F.else_some)
          ∙ sym (nodes-inner σ g n two)

-- an old node leads to what it led to
module _ {σ τ : Store} (N : Nodes σ) (G : Grows σ τ) where
  by-grown : (f n : ℕ) → n ≤ σ.count → 1 ≤ n → nodes_by f τ n ≡ nodes_by f σ n
  unfolding nodes_by
  by-grown zero n h s = refl
  by-grown (suc f) n h s = go (by-grown f) (ℕ_discrete n 1)
    where
      go : ((k : ℕ) → k ≤ σ.count → 1 ≤ k → nodes_by f τ k ≡ nodes_by f σ k) → Dec (n ≡ 1) → nodes_by (suc f) τ n ≡ nodes_by (suc f) σ n
      go I (yes z) = nodes-last τ f n z ∙ sym (nodes-last σ f n z)
      go I (no z) =
          let two : 2 ≤ n = omega (arith, z) in
          let F = N.fits n two h in
          nodes-inner τ f n two
          ∙ ap₂ (λ k l. (k ++ l) ++ (n ∷ []))
          (ap (λ x. nodes_by f τ (nat_abs x)) (G.then n two h) ∙ I (nat_abs (then_at σ n)) (omega (arith, F.then_low)) F.then_some)
          (ap (λ x. nodes_by f τ (nat_abs x)) (G.els n two h) ∙ I (nat_abs (else_at σ n)) (omega (arith, F.else_low)) F.else_some)
          ∙ sym (nodes-inner σ f n two)

  pub old-nodes : (x : ℤ) → EdgeOf σ x → nodes_under τ x ≡ nodes_under σ x
  unfolding nodes_under
  old-nodes x E = by-grown (nat_abs x) (nat_abs x) E.there E.some

-- a new node leads to what its children lead to, and to itself
pub new-nodes : (υ ω : Store) → Nodes υ → Grows υ ω → (t e x : ℤ) → EdgeOf υ t → EdgeOf υ e → nat_abs x ≡ suc υ.count
    → nat_abs (then_at ω (suc υ.count)) ≡ nat_abs t → nat_abs (else_at ω (suc υ.count)) ≡ nat_abs e
    → nodes_under ω x ≡ (nodes_under υ t ++ nodes_under υ e) ++ (suc υ.count ∷ [])
unfolding nodes_under
new-nodes υ ω N G t e x T E q p r =
    let c : ℕ = υ.count in
    rw q (nodes-inner ω c (suc c) (omega (arith, T.some, T.there))
    ∙ ap₂ (λ k l. (k ++ l) ++ (suc c ∷ [])) (ap (nodes_by c ω) p ∙ side t T) (ap (nodes_by c ω) r ∙ side e E))
  where
    side : (a : ℤ) → EdgeOf υ a → nodes_by υ.count ω (nat_abs a) ≡ nodes_by (nat_abs a) υ (nat_abs a)
    side a A = by-grown N G υ.count (nat_abs a) A.there A.some
        ∙ by-steps υ N υ.count (nat_abs a) (nat_abs a) A.there (le_refl (nat_abs a)) A.there A.some
