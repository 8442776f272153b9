-- A store that has gained nodes keeps every old edge and every old answer; and the rules of nodes hold of fewer nodes too. Document 01,
-- 'Store and meaning'.
use mathlib.Core.Path.{◌≡◌, refl, sym, ap, ◌∙◌}
use mathlib.Core.Bool.{true}
use Prim.Native.Nat.{ℕ, zero, suc, ◌+◌, ◌≤◌}
use native.Mathlib.Omega.{arith}
use native.Mathlib.Nat.{le_refl, le_trans}
use lib.Dec.{leb}
use lib.IntN.{ℤ, nat_abs}
use borrow.Author.Tests.{leb-true, le-leb}
use Rattle.codes.proofs.Bytes.{both}
use Rattle.edges.specs.Edge.{turn}
use Rattle.store.specs.Store.{Store, level_at, then_at, else_at}
use Rattle.store.specs.Meaning.{Setting, node_by, node, answer}
use Rattle.store.specs.Rules.{depth, Fits, Nodes}
use Rattle.store.specs.Growth.{EdgeOf, is_root, Grows}

-- A root is an edge of the store.
pub root-edge : (σ : Store) (e : ℤ) → is_root σ e ≡ true → EdgeOf σ e
root-edge σ e q =
    let w = both (leb 1 (nat_abs e)) (leb (nat_abs e) σ.count) q in
    record { some = leb-true 1 (nat_abs e) w.0; there = leb-true (nat_abs e) σ.count w.1 }

pub edge-root : (σ : Store) (e : ℤ) → EdgeOf σ e → is_root σ e ≡ true
edge-root σ e E = rw (le-leb 1 (nat_abs e) E.some) (le-leb (nat_abs e) σ.count E.there)

pub grows-refl : (σ : Store) → Grows σ σ
grows-refl σ = record { levels = refl; count = le_refl σ.count; level = λ n p h. refl; then = λ n p h. refl; els = λ n p h. refl }

pub grows-trans : {σ τ υ : Store} → Grows σ τ → Grows τ υ → Grows σ υ
grows-trans G H = record {
  levels = H.levels ∙ G.levels;
  count = le_trans G.count H.count;
  level = λ n p h. H.level n p (le_trans h G.count) ∙ G.level n p h;
  then = λ n p h. H.then n p (le_trans h G.count) ∙ G.then n p h;
  els = λ n p h. H.els n p (le_trans h G.count) ∙ G.els n p h;
}

module _ {σ τ : Store} (G : Grows σ τ) where
  pub grow-edge : (e : ℤ) → EdgeOf σ e → EdgeOf τ e
  grow-edge e E = record { some = E.some; there = le_trans E.there G.count }

  pub grow-depth : (n : ℕ) → n ≤ σ.count → depth τ n ≡ depth σ n
  grow-depth zero h = G.levels
  grow-depth (suc zero) h = G.levels
  grow-depth (suc (suc k)) h = G.level (suc (suc k)) (omega arith) h

  -- an old node says what it said
  module _ (N : Nodes σ) (s : Setting) where
    grow-steps : (f n : ℕ) → n ≤ σ.count → node_by f τ s n ≡ node_by f σ s n
    unfolding node_by
    grow-steps zero n h = refl
    grow-steps (suc f) zero h = refl
    grow-steps (suc f) (suc zero) h = refl
    grow-steps (suc f) (suc (suc k)) h =
        let two : 2 ≤ suc (suc k) = omega arith in
        let F = N.fits (suc (suc k)) two h in
        rw (
          G.level (suc (suc k)) two h,
          G.then (suc (suc k)) two h,
          G.els (suc (suc k)) two h,
          grow-steps f (nat_abs (then_at σ (suc (suc k)))) (omega arith),
          grow-steps f (nat_abs (else_at σ (suc (suc k)))) (omega arith),
        )

    pub grow-node : (n : ℕ) → n ≤ σ.count → node τ s n ≡ node σ s n
    unfolding node
    grow-node n h = grow-steps n n h

    pub grow-answer : (e : ℤ) → EdgeOf σ e → answer τ s e ≡ answer σ s e
    grow-answer e E = ap (turn e) (grow-node (nat_abs e) E.there)

-- a level, a then and an else that may be a node of one store may be one of another where their children lie as deep
fits-same : {σ τ : Store} (n l : ℕ) (t e : ℤ) → σ.levels ≡ τ.levels → depth σ (nat_abs t) ≡ depth τ (nat_abs t) → depth σ (nat_abs e) ≡ depth τ (nat_abs e)
    → Fits σ n l t e → Fits τ n l t e
fits-same n l t e v d d' F = record {
  positive = F.positive;
  differ = F.differ;
  then_some = F.then_some;
  then_low = F.then_low;
  then_deep = rw (← d) F.then_deep;
  else_some = F.else_some;
  else_low = F.else_low;
  else_deep = rw (← d') F.else_deep;
  level_low = rw (← v) F.level_low;
}

module _ {σ τ : Store} (G : Grows σ τ) where
  pub grow-fits : (n l : ℕ) (t e : ℤ) → n ≤ σ.count + 1 → Fits σ n l t e → Fits τ n l t e
  grow-fits n l t e h F = fits-same n l t e (sym G.levels)
      (sym (grow-depth G (nat_abs t) (omega (arith, F.then_low)))) (sym (grow-depth G (nat_abs e) (omega (arith, F.else_low)))) F

  shrink-fits : (n l : ℕ) (t e : ℤ) → n ≤ σ.count + 1 → Fits τ n l t e → Fits σ n l t e
  shrink-fits n l t e h F = fits-same n l t e G.levels
      (grow-depth G (nat_abs t) (omega (arith, F.then_low))) (grow-depth G (nat_abs e) (omega (arith, F.else_low))) F

  -- the rules of nodes hold of fewer nodes
  pub fewer-nodes : Nodes τ → Nodes σ
  fewer-nodes N = record {
    fits = λ n p h. shrink-fits n (level_at σ n) (then_at σ n) (else_at σ n) (omega arith)
        (rw (G.level n p h, G.then n p h, G.els n p h) at (N.fits n p (le_trans h G.count)));
    alone = λ m n m2 mc n2 nc a. N.alone m n m2 (le_trans mc G.count) n2 (le_trans nc G.count) (record {
      level = G.level m m2 mc ∙ a.level ∙ sym (G.level n n2 nc);
      then = G.then m m2 mc ∙ a.then ∙ sym (G.then n n2 nc);
      els = G.els m m2 mc ∙ a.els ∙ sym (G.els n n2 nc);
    });
  }
