-- The numbers that are met along a chain: they fall, they are nodes of one bucket, and no node of the bucket lies between them.
use mathlib.Core.Path.{◌≡◌, refl, sym, ◌∙◌}
use Prim.Native.Nat.{ℕ, zero, suc, ◌-◌, ◌≤◌, ◌<◌}
use native.Mathlib.Omega.{arith}
use native.Mathlib.Decide.{ℕ_discrete, dec_lt}
use Rattle.store.specs.Store.{Store, next_at}
use Rattle.store.specs.Rules.{bucket}
use Rattle.store.proofs.Chain.{Linked, newest-le, newest-own, newest-gap}
use Rattle.stretch.specs.Chained.{ChainsDescend, Chained, node_after, met_after}

-- chains that hold just their buckets, newest first, fall so
pub linked-falls : (σ : Store) → Linked σ → ChainsDescend σ
linked-falls σ L = record {
  lower = λ n p h. omega (arith, L.next n p h, newest-le σ (bucket σ n) (n - 1));
  node = λ n p h z. rw (L.next n p h) (newest-own σ (bucket σ n) (n - 1) (rw (L.next n p h) at z)).0;
  mine = λ n p h z. rw (L.next n p h) (newest-own σ (bucket σ n) (n - 1) (rw (L.next n p h) at z)).1;
  gap = λ n p h m q z k e. newest-gap σ (bucket σ n) (n - 1) m (rw (L.next n p h) at z) q (omega arith) e;
}

-- the next number
module _ (σ : Store) where
  pub after-node : (n : ℕ) → 0 < n → node_after σ n ≡ next_at σ n
  unfolding node_after
  after-node zero h = absurd (omega arith)
  after-node (suc n) h = refl

  after-low : ChainsDescend σ → (n : ℕ) → (0 < n → 2 ≤ n) → n ≤ σ.count → node_after σ n ≤ n
  unfolding node_after
  after-low F zero p h = omega arith
  after-low F (suc n) p h = omega (arith, F.lower (suc n) (p (omega arith)) h)

  after-some : (n : ℕ) → 0 < node_after σ n → 0 < n
  unfolding node_after
  after-some zero h = h
  after-some (suc n) h = omega arith

module _ (σ : Store) (n : ℕ) (C : Chained σ n) where
  pub record IsMet (i : ℕ) : Type 0 where
    pub high : met_after σ n i ≤ σ.count
    pub node : 0 < met_after σ n i → 2 ≤ met_after σ n i
    pub mine : 0 < met_after σ n i → bucket σ (met_after σ n i) ≡ bucket σ n

  pub met-is : (i : ℕ) → IsMet i
  unfolding met_after
  met-is zero = record { high = C.high; node = C.node; mine = λ h. refl }
  met-is (suc i) = next (met-is i)
    where
      next : IsMet i → IsMet (suc i)
      next M = record {
        high = omega (arith, after-low σ C.falls (met_after σ n i) M.node M.high, M.high);
        node = λ h. let z = after-some σ (met_after σ n i) h in let q = after-node σ (met_after σ n i) z in
            rw q (C.falls.node (met_after σ n i) (M.node z) M.high (rw q at h));
        mine = λ h. let z = after-some σ (met_after σ n i) h in let q = after-node σ (met_after σ n i) z in
            rw q (C.falls.mine (met_after σ n i) (M.node z) M.high (rw q at h)) ∙ M.mine z;
      }

  pub met-chained : (i : ℕ) → Chained σ (met_after σ n i)
  met-chained i = record {
    level_long = C.level_long;
    then_long = C.then_long;
    els_long = C.els_long;
    next_long = C.next_long;
    falls = C.falls;
    high = (met-is i).high;
    node = (met-is i).node;
  }

  -- numbers fall
  pub met-lower : (i j : ℕ) → i < j → 0 < met_after σ n i → met_after σ n j < met_after σ n i
  unfolding met_after
  met-lower i zero l h = absurd (omega arith)
  met-lower i (suc j) l h = go (ℕ_discrete i j) (met-lower i j)
    where
      go : Dec (i ≡ j) → (i < j → 0 < met_after σ n i → met_after σ n j < met_after σ n i) → node_after σ (met_after σ n j) < met_after σ n i
      go (yes q) ih =
          let z : 0 < met_after σ n j = rw (← q) h in
          rw (q, after-node σ (met_after σ n j) z) (C.falls.lower (met_after σ n j) ((met-is j).node z) (met-is j).high)
      go (no f) ih = omega (arith, ih (omega arith) h, after-low σ C.falls (met_after σ n j) (met-is j).node (met-is j).high)

  pub met-under : (i : ℕ) → met_after σ n i ≤ n
  unfolding met_after
  met-under zero = omega arith
  met-under (suc i) = omega (arith, met-under i, after-low σ C.falls (met_after σ n i) (met-is i).node (met-is i).high)

  -- and none of the bucket is left out
  pub record MetWithin (k m : ℕ) : Type 0 where
    pub step : ℕ
    pub before : step < k
    pub is : met_after σ n step ≡ m

  pub met_all : (k : ℕ) → ((i : ℕ) → i < k → 0 < met_after σ n i) → (m : ℕ) → 2 ≤ m → met_after σ n k < m → m ≤ n → bucket σ m ≡ bucket σ n
      → MetWithin k m
  unfolding met_after
  met_all zero s m p l h e = absurd (omega arith)
  met_all (suc k) s m p l h e = go (ℕ_discrete (met_after σ n k) m) (dec_lt (met_after σ n k) m) (met_all k (λ i g. s i (omega arith)) m p)
    where
      go : Dec (met_after σ n k ≡ m) → Dec (met_after σ n k < m)
          → (met_after σ n k < m → m ≤ n → bucket σ m ≡ bucket σ n → MetWithin k m) → MetWithin (suc k) m
      go (yes q) d ih = record { step = k; before = omega arith; is = q }
      go (no f) (yes d) ih = let M = ih d h e in record { step = M.step; before = omega (arith, M.before); is = M.is }
      go (no f) (no d) ih =
          let z = s k (omega arith) in
          absurd (C.falls.gap (met_after σ n k) ((met-is k).node z) (met-is k).high m p
          (rw (after-node σ (met_after σ n k) z) at l) (omega arith) (e ∙ sym ((met-is k).mine z)))
