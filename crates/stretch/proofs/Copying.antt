-- A stretch copied, node by node.
use mathlib.Core.Path.{◌≡◌, refl, sym, ◌∙◌}
use mathlib.Core.List.{List, []}
use Prim.Native.Nat.{ℕ, suc, ◌+◌, ◌-◌, ◌≤◌, ◌<◌}
use native.Mathlib.Omega.{arith}
use native.Mathlib.Decide.{ℕ_discrete, dec_lt}
use lib.ListN.{length, set}
use lib.Seq.{get_or-set_same, get_or-set_other}
use lib.IntN.{ℤ, pos}
use Rattle.store.specs.Store.{Store, store, level_at, then_at, else_at, next_at}
use Rattle.stretch.specs.Chained.{stretch_slots, Chained, met_after, SameNode, Copied}
use Rattle.stretch.proofs.Steps.{after-node, met-is}

-- the slots below c are filled, and the walk has come to `at`
pub record Copying (σ : Store) (n : ℕ) (lv : List ℕ) (tv ev : List ℤ) (c at : ℕ) : Type 0 where
  pub low : 1 ≤ c
  pub high : c ≤ stretch_slots
  pub here : at ≤ σ.count
  pub copied : Copied σ n (store 0 c lv tv ev [] []) c at

module _ (σ : Store) (n : ℕ) (C : Chained σ n) (lv : List ℕ) (tv ev : List ℤ) where
  pub copying-start : Copying σ n lv tv ev 1 n
  unfolding met_after
  copying-start = record {
    low = omega arith;
    high = omega arith;
    here = C.high;
    copied = record { nodes = λ i l. absurd (omega arith); same = λ i l. absurd (omega arith); stands = refl };
  }

  module _ (c at : ℕ) (K : Copying σ n lv tv ev c at) where
    module _ (h : 0 < at) (k : c < stretch_slots) (a : c < length lv) (b : c < length tv) (d : c < length ev)
        (l : ℕ) (t e : ℤ) (p : l ≡ level_at σ at) (q : t ≡ then_at σ at) (r : e ≡ else_at σ at) where
      filled : SameNode σ at (store 0 (c + 1) (set lv c l) (set tv c t) (set ev c e) [] []) (c + 1)
      filled =
          let o : c + 1 - 1 ≡ c = omega arith in
          record {
            level = rw o (get_or-set_same lv c l 0 a ∙ p);
            then = rw o (get_or-set_same tv c t (pos 0) b ∙ q);
            els = rw o (get_or-set_same ev c e (pos 0) d ∙ r);
          }

      kept : (i : ℕ) → i + 1 < c → SameNode σ (met_after σ n i) (store 0 (c + 1) (set lv c l) (set tv c t) (set ev c e) [] []) (i + 2)
      kept i g =
          let S = K.copied.same i g in
          record {
            level = get_or-set_other lv c (i + 2 - 1) l 0 (λ x. omega arith) ∙ S.level;
            then = get_or-set_other tv c (i + 2 - 1) t (pos 0) (λ x. omega arith) ∙ S.then;
            els = get_or-set_other ev c (i + 2 - 1) e (pos 0) (λ x. omega arith) ∙ S.els;
          }

      last : (i : ℕ) → i + 1 ≡ c → met_after σ n i ≡ at
      last i g = let o : c - 1 ≡ i = omega arith in sym (rw o at K.copied.stands)

      next : next_at σ at ≡ met_after σ n (c + 1 - 1)
      unfolding met_after
      next =
          let o : c + 1 - 1 ≡ suc (c - 1) = omega (arith, K.low) in
          rw (o, ← K.copied.stands) (sym (after-node σ at h))

      pub copying-more : Copying σ n (set lv c l) (set tv c t) (set ev c e) (c + 1) (next_at σ at)
      copying-more = record {
        low = omega arith;
        high = omega arith;
        here = rw next (met-is σ n C (c + 1 - 1)).high;
        copied = record {
          nodes = λ i g. node i g (ℕ_discrete (i + 1) c);
          same = λ i g. same i g (ℕ_discrete (i + 1) c);
          stands = next;
        };
      }
        where
          node : (i : ℕ) → i + 1 < c + 1 → Dec (i + 1 ≡ c) → 0 < met_after σ n i
          node i g (yes x) = rw (last i x) h
          node i g (no f) = K.copied.nodes i (omega arith)

          same : (i : ℕ) → i + 1 < c + 1 → Dec (i + 1 ≡ c) → SameNode σ (met_after σ n i) (store 0 (c + 1) (set lv c l) (set tv c t) (set ev c e) [] []) (i + 2)
          same i g (yes x) = let o : i + 2 ≡ c + 1 = omega arith in rw (last i x, o) filled
          same i g (no f) = kept i (omega arith)

    -- one node at least is copied before the loop is left
    pub copying-two : 0 < n → (c < stretch_slots → at ≡ 0) → 2 ≤ c
    unfolding met_after
    copying-two h f = go (dec_lt 1 c)
      where
        go : Dec (1 < c) → 2 ≤ c
        go (yes g) = g
        go (no g) =
            let o : c - 1 ≡ 0 = omega arith in
            let r : at ≡ n = rw o at K.copied.stands in
            absurd (omega (arith, f (omega arith)))
