-- A search along a chain. A node that holds a level, a then and an else lies in the chain of their bucket, above both children; so a walk
-- along that chain, newest first, meets it before it meets a number that isn't above both children.
use mathlib.Core.Path.{◌≡◌, refl, sym, ap, ◌∙◌}
use mathlib.Core.Bool.{Bool, true, false, true≢false}
use Prim.Native.Nat.{ℕ, zero, suc, ◌-◌, ◌≤◌, ◌<◌, max}
use native.Mathlib.Omega.{arith}
use native.Mathlib.Decide.{ℕ_discrete, dec_lt}
use lib.IntN.{ℤ, nat_abs}
use Rattle.std.specs.Prelude.{None, Some}
use Rattle.chains.specs.Found.{node_found}
use Rattle.edges.specs.Edge.{bucket_of}
use Rattle.store.specs.Store.{Store, next_at, head_at}
use Rattle.store.specs.Rules.{Nodes, bucket}
use Rattle.store.specs.Make.{holds, find}
use Rattle.store.proofs.Chain.{newest, Linked, bucket_of-small, newest-le, newest-own, newest-gap, next-newest}
use Rattle.store.proofs.Find.{Holds, holds-true, true-holds, find-is, absent-find}

-- where a node lies that holds them
module _ (σ : Store) (l : ℕ) (t e : ℤ) (n : ℕ) where
  holds-bucket : Holds σ n l t e → bucket σ n ≡ bucket_of l t e
  unfolding bucket
  holds-bucket h = rw (h.level, h.then, h.els)

  holds-above : Nodes σ → 2 ≤ n → n ≤ σ.count → Holds σ n l t e → (nat_abs t < n) × (nat_abs e < n)
  holds-above N p h a = (rw a.then at (N.fits n p h).then_low, rw a.els at (N.fits n p h).else_low)

-- a number of a node is that of one that is found
some-found : (n : ℕ) → 0 < n → Some n ≡ node_found n
unfolding node_found
some-found zero h = absurd (omega arith)
some-found (suc n) h = refl

-- A walk that has come to n: a node of the bucket or 0, and no newer node holds them.
pub record Walking (σ : Store) (l : ℕ) (t e : ℤ) (n : ℕ) : Type 0 where
  pub high : n ≤ σ.count
  pub node : 0 < n → 2 ≤ n
  pub mine : 0 < n → bucket σ n ≡ bucket_of l t e
  pub passed : (k : ℕ) → n < k → 2 ≤ k → k ≤ σ.count → Holds σ k l t e → ⊥

module _ (σ : Store) (l : ℕ) (t e : ℤ) where
  walking-newest : (k n : ℕ) → n ≡ newest σ (bucket_of l t e) k → k ≤ σ.count
      → ((i : ℕ) → k < i → 2 ≤ i → i ≤ σ.count → Holds σ i l t e → ⊥) → Walking σ l t e n
  walking-newest k n q h f = rw q (record {
    high = omega (arith, newest-le σ (bucket_of l t e) k);
    node = λ p. (newest-own σ (bucket_of l t e) k p).0;
    mine = λ p. (newest-own σ (bucket_of l t e) k p).1;
    passed = λ i g p c a. go i g p c a (dec_lt k i);
  })
    where
      go : (i : ℕ) → newest σ (bucket_of l t e) k < i → 2 ≤ i → i ≤ σ.count → Holds σ i l t e → Dec (k < i) → ⊥
      go i g p c a (yes d) = f i d p c a
      go i g p c a (no d) = newest-gap σ (bucket_of l t e) k i g p (omega arith) (holds-bucket σ l t e i a)

  pub walking_start : Linked σ → (b : ℕ) → b ≡ bucket_of l t e → Walking σ l t e (head_at σ b)
  walking_start L b q =
      walking-newest σ.count _ (rw q (L.head (bucket_of l t e) (bucket_of-small l t e))) (omega arith) (λ i g p c a. omega arith)

  module _ (n : ℕ) (s : Walking σ l t e n) (h : 0 < n) where
    pub walking-more : Linked σ → (x : Bool) → x ≡ holds σ l t e n → x ≡ false → Walking σ l t e (next_at σ n)
    walking-more L x r f =
        let k = s.high in
        walking-newest (n - 1) _ (next-newest σ L n (s.node h) k (bucket_of l t e) (s.mine h)) (omega arith)
        (λ i g p c a. go i g p c a (ℕ_discrete i n))
      where
        go : (i : ℕ) → n - 1 < i → 2 ≤ i → i ≤ σ.count → Holds σ i l t e → Dec (i ≡ n) → ⊥
        go i g p c a (yes q) = true≢false (sym (true-holds σ l t e i a) ∙ ap (holds σ l t e) q ∙ sym r ∙ f)
        go i g p c a (no q) = s.passed i (omega arith) p c a

    pub walking-less : Linked σ → next_at σ n < n
    walking-less L = omega (arith, L.next n (s.node h) s.high, newest-le σ (bucket σ n) (n - 1))

    pub walking-hit : Nodes σ → (x : Bool) → x ≡ holds σ l t e n → x ≡ true → Some n ≡ node_found (find σ l t e)
    walking-hit N x r f = some-found n h ∙ ap node_found (sym (find-is σ l t e N n (s.node h) s.high (holds-true σ l t e n (sym r ∙ f))))

  -- a walk may end at a number that isn't above both children
  pub walking-end : (n a b : ℕ) → Walking σ l t e n → Nodes σ → a ≡ nat_abs t → b ≡ nat_abs e → n ≤ max a b → None ≡ node_found (find σ l t e)
  unfolding node_found
  walking-end n a b s N p q h = ap node_found (sym (absent-find σ l t e (λ i x y o.
      let z = holds-above σ l t e i N x y o in
      s.passed i (omega arith) x y o)))
