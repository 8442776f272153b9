-- Building the index node by node: each node below n is in it, and none of them is like an older one.
use mathlib.Core.Path.{◌≡◌, refl, ◌∙◌}
use mathlib.Core.List.{List}
use Prim.Native.Nat.{ℕ, ◌+◌, ◌-◌, ◌*◌, ◌^◌, ◌≤◌, ◌<◌}
use native.Mathlib.Omega.{arith}
use native.Mathlib.Decide.{ℕ_discrete}
use lib.ListN.{length, get_or, set, replicate, length-set}
use Rattle.store.specs.Store.{Store, level_at, then_at, else_at}
use Rattle.store.specs.Rules.{AlikeNodes}
use Rattle.store.proofs.Find.{true-holds}
use Rattle.unique_table.specs.Index.{Indexed, Sought, AllAlone}
use Rattle.unique_table.proofs.Seeking.{sought-holds}
use Rattle.unique_table.proofs.More.{indexed-none, indexed-more}

pub record Built (width : ℕ) (σ : Store) (count long : ℕ) (ix : List ℕ) (n : ℕ) : Type 0 where
  pub low : 2 ≤ n
  pub high : n ≤ count + 1
  pub same : length ix ≡ long
  pub index : Indexed width σ (n - 1) ix
  pub alone : AllAlone σ (n - 1)

module _ (width : ℕ) (σ : Store) (count : ℕ) where
  pub built-start : (ix : List ℕ) → ix ≡ replicate (length ix) 0 → 1 ≤ width → width ≤ 2 ^ 34 → width + 2 * count + 2 ≤ length ix → 1 ≤ count
      → Built width σ count (length ix) ix 2
  built-start ix q w x h k = record {
    low = omega arith;
    high = omega arith;
    same = refl;
    index = indexed-none width σ ix w x (omega arith) q;
    alone = λ n p b m r g. absurd (omega arith);
  }

  module _ (long : ℕ) (ix : List ℕ) (n : ℕ) (B : Built width σ count long ix n) (h : n ≤ count) (at : ℕ)
      (s : Sought width σ (n - 1) ix (level_at σ n) (then_at σ n) (else_at σ n) at) where
    -- node n stands in the index already
    pub built-bad : (get_or ix at 0 ≡ 0 → ⊥) → AllAlone σ count → ⊥
    built-bad f A =
        let p : 0 < get_or ix at 0 = omega arith in
        let H = sought-holds width σ (n - 1) ix B.index _ _ _ at s p in
        A n B.low h (get_or ix at 0) (B.index.low at p) (omega (arith, B.index.high at, B.low))
        (record { level = H.level; then = H.then; els = H.els })

    -- it doesn't, and is put there
    module _ (room : width + 2 * count + 2 ≤ long) (z : get_or ix at 0 ≡ 0) where
      index-more : Indexed width σ n (set ix at n)
      index-more =
          let q : n - 1 + 1 ≡ n = omega (arith, B.low) in
          rw q at (indexed-more width σ σ (n - 1) ix B.index (level_at σ n) (then_at σ n) (else_at σ n) at s z
          (omega (arith, B.low)) (omega (arith, B.low, B.same))
          (record { level = λ m p g. refl; then = λ m p g. refl; els = λ m p g. refl })
          (rw q (record { level = refl; then = refl; els = refl })))

      alone-more : AllAlone σ n
      alone-more k p g m r l a = go (ℕ_discrete k n)
        where
          go : Dec (k ≡ n) → ⊥
          go (yes q) =
              let b : AlikeNodes σ m n = rw q at a in
              s.none z m r (omega arith) (true-holds σ _ _ _ m (record { level = b.level; then = b.then; els = b.els }))
          go (no f) = B.alone k p (omega arith) m r l a

      pub built-more : Built width σ count long (set ix at n) (n + 1)
      built-more =
          let q : n + 1 - 1 ≡ n = omega arith in
          record {
            low = omega (arith, B.low);
            high = omega arith;
            same = length-set ix at n ∙ B.same;
            index = rw q index-more;
            alone = rw q alone-more;
          }

  module _ (long : ℕ) (ix : List ℕ) (n : ℕ) (B : Built width σ count long ix n) (h : count < n) where
    last : n - 1 ≡ count
    last = omega (arith, B.high)

    pub built-alone : AllAlone σ count
    built-alone = rw last at B.alone

    pub built-index : Indexed width σ count ix
    built-index = rw last at B.index
