-- One node more, which fits and is not there yet, keeps the rules. Document 01, 'Store and meaning': 'A node not found takes the next
-- number.'
use mathlib.Core.Path.{◌≡◌, refl, sym, ap, ◌∙◌}
use mathlib.Core.Logic.{◌≢◌}
use Prim.Native.Nat.{ℕ, ◌+◌, ◌-◌, ◌≤◌, ◌<◌}
use native.Mathlib.Omega.{arith}
use native.Mathlib.Decide.{ℕ_discrete}
use lib.ListN.{length, set, length-set}
use lib.Seq.{get_or-set_other}
use lib.IntN.{ℤ, pos}
use Rattle.edges.specs.Edge.{bucket_of}
use Rattle.store.specs.Store.{Store, level_at, then_at, else_at, head_at}
use Rattle.codes.specs.Limits.{Limits}
use Rattle.store.specs.Rules.{Sizes, Fits, AlikeNodes, Nodes, Zero, Zeros, Rules}
use Rattle.store.specs.Make.{added}
use Rattle.store.specs.Growth.{Grows}
use Rattle.store.proofs.Growth.{grow-fits}
use Rattle.store.proofs.Chain.{added-agree, added-level, added_then, added-els, added-chains}
use Rattle.store.proofs.Find.{Holds, Absent}

-- One node more.
module _ (m : Limits) (σ : Store) (l : ℕ) (t e : ℤ) (z : Sizes m σ) (h : σ.count < length σ.level) where
  pub added-grows : Grows σ (added σ l t e)
  unfolding added
  added-grows = let A = added-agree m σ l t e z h in record { levels = refl; count = omega arith; level = A.level; then = A.then; els = A.els }

  pub added-holds : Holds (added σ l t e) (σ.count + 1) l t e
  added-holds = record { level = added-level m σ l t e z h; then = added_then m σ l t e z h; els = added-els m σ l t e z h }

  pub added-count : (added σ l t e).count ≡ σ.count + 1
  unfolding added
  added-count = refl

  module _ (N : Nodes σ) (F : Fits σ (σ.count + 1) l t e) (A : Absent σ l t e) where
    added-fits : (n : ℕ) → 2 ≤ n → n ≤ (added σ l t e).count → Fits (added σ l t e) n (level_at (added σ l t e) n) (then_at (added σ l t e) n) (else_at (added σ l t e) n)
    added-fits n p k = go (ℕ_discrete n (σ.count + 1))
      where
        G : Grows σ (added σ l t e)
        G = added-grows

        go : Dec (n ≡ σ.count + 1) → Fits (added σ l t e) n (level_at (added σ l t e) n) (then_at (added σ l t e) n) (else_at (added σ l t e) n)
        go (yes q) = rw (q, added-holds.level, added-holds.then, added-holds.els) (grow-fits G (σ.count + 1) l t e (omega arith) F)
        go (no f) =
            let b : n ≤ σ.count = omega (arith, added-count) in
            rw (G.level n p b, G.then n p b, G.els n p b) (grow-fits G n (level_at σ n) (then_at σ n) (else_at σ n) (omega arith) (N.fits n p b))

    added-alone : (a b : ℕ) → 2 ≤ a → a ≤ (added σ l t e).count → 2 ≤ b → b ≤ (added σ l t e).count → AlikeNodes (added σ l t e) a b → a ≡ b
    added-alone a b a2 ac b2 bc x = go (ℕ_discrete a (σ.count + 1)) (ℕ_discrete b (σ.count + 1))
      where
        G : Grows σ (added σ l t e)
        G = added-grows

        clash : (a b : ℕ) → 2 ≤ b → b ≤ σ.count → a ≡ σ.count + 1 → AlikeNodes (added σ l t e) a b → ⊥
        clash a b b2 bc q x = A b b2 bc (record {
          level = sym (G.level b b2 bc) ∙ sym x.level ∙ ap (level_at (added σ l t e)) q ∙ added-holds.level;
          then = sym (G.then b b2 bc) ∙ sym x.then ∙ ap (then_at (added σ l t e)) q ∙ added-holds.then;
          els = sym (G.els b b2 bc) ∙ sym x.els ∙ ap (else_at (added σ l t e)) q ∙ added-holds.els;
        })

        go : Dec (a ≡ σ.count + 1) → Dec (b ≡ σ.count + 1) → a ≡ b
        go (yes q) (yes r) = q ∙ sym r
        go (yes q) (no f) = absurd (clash a b b2 (omega (arith, added-count)) q x)
        go (no f) (yes r) = absurd (clash b a a2 (omega (arith, added-count)) r (record { level = sym x.level; then = sym x.then; els = sym x.els }))
        go (no f) (no g) =
            let ab : a ≤ σ.count = omega (arith, added-count) in
            let bb : b ≤ σ.count = omega (arith, added-count) in
            N.alone a b a2 ab b2 bb (record {
              level = sym (G.level a a2 ab) ∙ x.level ∙ G.level b b2 bb;
              then = sym (G.then a a2 ab) ∙ x.then ∙ G.then b b2 bb;
              els = sym (G.els a a2 ab) ∙ x.els ∙ G.els b b2 bb;
            })

    pub added-nodes : Nodes (added σ l t e)
    added-nodes = record { fits = added-fits; alone = added-alone }

  pub added-length : length (added σ l t e).level ≡ length σ.level
  unfolding added
  added-length = simp length-set

  pub added-sizes : σ.count < m.nodes → Sizes m (added σ l t e)
  unfolding added
  added-sizes k = record {
    then_long = simp length-set z.then_long;
    els_long = simp length-set z.els_long;
    next_long = simp length-set z.next_long;
    count_some = omega arith;
    count_slots = simp length-set (omega arith);
    count_limit = omega arith;
    heads_long = simp length-set z.heads_long;
    levels_limit = z.levels_limit;
  }

  pub added-zeros : Zeros σ → Zeros (added σ l t e)
  unfolding added
  added-zeros y = record { first = other 1 (λ q. omega (arith, z.count_some)) y.first; unused = unused }
    where
      other : (n : ℕ) → n - 1 ≢ σ.count → Zero σ n → Zero (added σ l t e) n
      other n f w = record {
        level = get_or-set_other σ.level σ.count (n - 1) l 0 f ∙ w.level;
        then = get_or-set_other σ.then σ.count (n - 1) t (pos 0) f ∙ w.then;
        els = get_or-set_other σ.els σ.count (n - 1) e (pos 0) f ∙ w.els;
        next = get_or-set_other σ.next σ.count (n - 1) (head_at σ (bucket_of l t e)) 0 f ∙ w.next;
      }

      unused : (n : ℕ) → σ.count + 1 < n → n ≤ length (set σ.level σ.count l) → Zero (added σ l t e) n
      unused n p k = other n (λ q. omega arith) (y.unused n (omega arith) (rw (length-set σ.level σ.count l) at k))

  pub added-rules : σ.count < m.nodes → Rules m σ → Fits σ (σ.count + 1) l t e → Absent σ l t e → Rules m (added σ l t e)
  added-rules k R F A = record
      { sizes = added-sizes k; nodes = added-nodes R.nodes F A; chains = added-chains m σ l t e z h R.chains; zeros = added-zeros R.zeros }
