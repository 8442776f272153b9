-- What nodes and edges say, by the rules of nodes alone: the definition's two equations, which levels an answer depends on, and the
-- setting at which every positive edge says yes. Document 01, 'Store and meaning'.
use mathlib.Core.Path.{◌≡◌, refl, sym, ap, ap₂, ◌∙◌}
use mathlib.Core.Bool.{true, not, cond}
use Prim.Native.Nat.{ℕ, zero, suc, ◌≤◌, ◌<◌}
use native.Mathlib.Omega.{arith}
use native.Mathlib.Nat.{le_refl}
use lib.IntN.{ℤ, pos, neg_ℤ, nat_abs}
use Rattle.edges.specs.Edge.{turn}
use Rattle.edges.proofs.Edge.{abs_neg, turn-neg}
use Rattle.store.specs.Store.{Store, level_at, then_at, else_at}
use Rattle.store.specs.Meaning.{Setting, node_by, node, answer}
use Rattle.store.specs.Rules.{depth, Nodes}
use Rattle.store.specs.Growth.{EdgeOf}

-- where a node lies, and that none lies deeper than node 1
pub depth-node : (σ : Store) (n : ℕ) → 2 ≤ n → depth σ n ≡ level_at σ n
depth-node σ zero p = absurd (omega arith)
depth-node σ (suc zero) p = absurd (omega arith)
depth-node σ (suc (suc k)) p = refl

pub depth_low : (σ : Store) (N : Nodes σ) (n : ℕ) → n ≤ σ.count → depth σ n ≤ σ.levels
depth_low σ N zero h = le_refl σ.levels
depth_low σ N (suc zero) h = le_refl σ.levels
depth_low σ N (suc (suc k)) h = let F = N.fits (suc (suc k)) (omega arith) h in omega arith

-- 'Node 1 is yes'
pub node-one : (σ : Store) (s : Setting) → node σ s 1 ≡ true
unfolding node node_by
node-one σ s = refl

module _ (σ : Store) (N : Nodes σ) where
  -- the two edges of a node
  pub then_edge : (n : ℕ) → 2 ≤ n → n ≤ σ.count → EdgeOf σ (then_at σ n)
  then_edge n p h = let F = N.fits n p h in record { some = F.then_some; there = omega arith }

  pub else_edge : (n : ℕ) → 2 ≤ n → n ≤ σ.count → EdgeOf σ (else_at σ n)
  else_edge n p h = let F = N.fits n p h in record { some = F.else_some; there = omega arith }

  -- more steps than a node's number change nothing
  same-steps : (s : Setting) (f g n : ℕ) → n ≤ f → n ≤ g → n ≤ σ.count → node_by f σ s n ≡ node_by g σ s n
  unfolding node_by
  same-steps s zero zero n p q h = refl
  same-steps s zero (suc g) zero p q h = refl
  same-steps s zero (suc g) (suc n) p q h = absurd (omega arith)
  same-steps s (suc f) zero zero p q h = refl
  same-steps s (suc f) zero (suc n) p q h = absurd (omega arith)
  same-steps s (suc f) (suc g) zero p q h = refl
  same-steps s (suc f) (suc g) (suc zero) p q h = refl
  same-steps s (suc f) (suc g) (suc (suc k)) p q h =
      let F = N.fits (suc (suc k)) (omega arith) h in
      ap₂ (λ a b. cond (s (level_at σ (suc (suc k)))) (turn (then_at σ (suc (suc k))) a) (turn (else_at σ (suc (suc k))) b))
      (same-steps s f g (nat_abs (then_at σ (suc (suc k)))) (omega arith) (omega arith) (omega arith))
      (same-steps s f g (nat_abs (else_at σ (suc (suc k)))) (omega arith) (omega arith) (omega arith))

  pub more-steps : (s : Setting) (f n : ℕ) → n ≤ f → n ≤ σ.count → node_by f σ s n ≡ node σ s n
  unfolding node
  more-steps s f n p h = same-steps s f n n p (le_refl n) h

  -- 'a node's answer is that of its then edge where its level is yes, else of its else edge'
  pub node-step : (s : Setting) (n : ℕ) → 2 ≤ n → n ≤ σ.count
      → node σ s n ≡ cond (s (level_at σ n)) (answer σ s (then_at σ n)) (answer σ s (else_at σ n))
  unfolding node node_by
  node-step s zero p h = absurd (omega arith)
  node-step s (suc zero) p h = absurd (omega arith)
  node-step s (suc (suc k)) p h =
      let F = N.fits (suc (suc k)) p h in
      ap₂ (λ a b. cond (s (level_at σ (suc (suc k)))) (turn (then_at σ (suc (suc k))) a) (turn (else_at σ (suc (suc k))) b))
      (more-steps s (suc k) (nat_abs (then_at σ (suc (suc k)))) (omega arith) (omega arith))
      (more-steps s (suc k) (nat_abs (else_at σ (suc (suc k)))) (omega arith) (omega arith))

  -- An answer depends only on levels from its node's own on, and below the level count.
  module _ (s t : Setting) where
    node-from : (k n : ℕ) → n ≤ k → 1 ≤ n → n ≤ σ.count → ((j : ℕ) → depth σ n ≤ j → j < σ.levels → s j ≡ t j) → node σ s n ≡ node σ t n
    node-from zero n b p h a = absurd (omega arith)
    node-from (suc k) zero b p h a = absurd (omega arith)
    node-from (suc k) (suc zero) b p h a = node-one σ s ∙ sym (node-one σ t)
    node-from (suc k) (suc (suc m)) b p h a =
        let F = N.fits (suc (suc m)) (omega arith) h in
        let x = node-from k (nat_abs (then_at σ (suc (suc m)))) (omega arith) F.then_some (omega arith) (λ j d. a j (omega arith)) in
        let y = node-from k (nat_abs (else_at σ (suc (suc m)))) (omega arith) F.else_some (omega arith) (λ j d. a j (omega arith)) in
        let z = a (level_at σ (suc (suc m))) (le_refl (level_at σ (suc (suc m)))) F.level_low in
        let two : 2 ≤ suc (suc m) = omega arith in
        rw (node-step s (suc (suc m)), node-step t (suc (suc m)), x, y, z)

    pub answer-from : (e : ℤ) → EdgeOf σ e → ((j : ℕ) → depth σ (nat_abs e) ≤ j → j < σ.levels → s j ≡ t j) → answer σ s e ≡ answer σ t e
    answer-from e E a = ap (turn e) (node-from (nat_abs e) (nat_abs e) (le_refl (nat_abs e)) E.some E.there a)

    pub answer-below : (e : ℤ) → EdgeOf σ e → ((j : ℕ) → j < σ.levels → s j ≡ t j) → answer σ s e ≡ answer σ t e
    answer-below e E a = answer-from e E (λ j _. a j)

  -- where every level is yes, so is every positive edge
  node-yes : (k n : ℕ) → n ≤ k → 1 ≤ n → n ≤ σ.count → node σ (λ j. true) n ≡ true
  unfolding turn
  node-yes zero n b p h = absurd (omega arith)
  node-yes (suc k) zero b p h = absurd (omega arith)
  node-yes (suc k) (suc zero) b p h = node-one σ (λ j. true)
  node-yes (suc k) (suc (suc m)) b p h =
      let F = N.fits (suc (suc m)) (omega arith) h in
      node-step (λ j. true) (suc (suc m)) (omega arith) h ∙ ap (answer σ (λ j. true)) F.positive
      ∙ node-yes k (nat_abs (then_at σ (suc (suc m)))) (omega arith) F.then_some (omega arith)

  pub answer-yes : (n : ℕ) → EdgeOf σ (pos n) → answer σ (λ j. true) (pos n) ≡ true
  unfolding turn
  answer-yes n E = node-yes n n (le_refl n) E.some E.there

-- 'a minus turns its answer over'
pub opposite-edge : (σ : Store) (e : ℤ) → EdgeOf σ e → EdgeOf σ (neg_ℤ e)
opposite-edge σ e E = record { some = rw (abs_neg e) E.some; there = rw (abs_neg e) E.there }

pub answer-opposite : (σ : Store) (s : Setting) (e : ℤ) → 1 ≤ nat_abs e → answer σ s (neg_ℤ e) ≡ not (answer σ s e)
answer-opposite σ s e h = rw (abs_neg e) (turn-neg e (node σ s (nat_abs e)) h)
