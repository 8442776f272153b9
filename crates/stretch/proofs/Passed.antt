-- A walk along a chain, in which something is shown of each node that it passes.
use mathlib.Core.Path.{◌≡◌, refl, sym, ◌∙◌}
use Prim.Native.Nat.{ℕ, ◌≤◌, ◌<◌}
use native.Mathlib.Omega.{arith}
use native.Mathlib.Decide.{dec_lt}
use Rattle.store.specs.Store.{Store, next_at}
use Rattle.store.specs.Rules.{bucket}
use Rattle.stretch.specs.Chained.{Chained, met_after, EachOn}
use Rattle.stretch.proofs.Steps.{after-node, met-is, met-chained, met-under, met_all}

-- A walk from s on has come to n.
pub record PassedBy (σ : Store) (s : ℕ) (P : ℕ → Type 0) (n : ℕ) : Type 0 where
  pub chained : Chained σ n
  pub low : n ≤ s
  pub mine : 0 < n → bucket σ n ≡ bucket σ s
  pub all : (m : ℕ) → 2 ≤ m → n < m → m ≤ s → bucket σ m ≡ bucket σ s → P m

module _ (σ : Store) (s : ℕ) (P : ℕ → Type 0) where
  pub passed_start : Chained σ s → PassedBy σ s P s
  passed_start C = record { chained = C; low = omega arith; mine = λ h. refl; all = λ m p l h e. absurd (omega arith) }

  -- some steps on
  pub passed_on : (n : ℕ) → PassedBy σ s P n → (k : ℕ) → ((i : ℕ) → i < k → 0 < met_after σ n i) → ((i : ℕ) → i < k → P (met_after σ n i)) → 0 < n
      → PassedBy σ s P (met_after σ n k)
  passed_on n W k z f g = record {
    chained = met-chained σ n C k;
    low = omega (arith, met-under σ n C k, W.low);
    mine = λ h. (met-is σ n C k).mine h ∙ W.mine g;
    all = λ m p l h e. at m p l h e (dec_lt n m);
  }
    where
      C : Chained σ n
      C = W.chained

      at : (m : ℕ) → 2 ≤ m → met_after σ n k < m → m ≤ s → bucket σ m ≡ bucket σ s → Dec (n < m) → P m
      at m p l h e (yes d) = W.all m p d h e
      at m p l h e (no d) =
          let M = met_all σ n C k z m p l (omega arith) (e ∙ sym (W.mine g)) in
          rw M.is at (f M.step M.before)

  -- one step on
  pub passed-one : (n : ℕ) → PassedBy σ s P n → 0 < n → P n → PassedBy σ s P (next_at σ n)
  unfolding met_after
  passed-one n W g h =
      let W' = passed_on n W 1 (λ i l. rw (zero_of i l) g) (λ i l. rw (zero_of i l) h) g in
      rw (after-node σ n g) at W'
    where
      zero_of : (i : ℕ) → i < 1 → i ≡ 0
      zero_of i l = omega arith

  pub passed-end : (n : ℕ) → PassedBy σ s P n → n ≡ 0 → EachOn σ s P
  passed-end n W q m p h e = W.all m p (omega arith) h e

  -- what holds of every node of the chain holds of those from where the walk stands
  pub passed_here : (n : ℕ) → PassedBy σ s P n → 0 < n → EachOn σ s P → EachOn σ n P
  passed_here n W g A m p h e = A m p (omega (arith, W.low)) (e ∙ W.mine g)

  pub passed-node : (n : ℕ) → PassedBy σ s P n → 0 < n → EachOn σ s P → P n
  passed-node n W g A = A n (W.chained.node g) W.low (W.mine g)
