-- An empty store keeps the rules exactly where it has a slot for node 1 and no more levels than a store may have. Document 01, 'Store
-- and meaning'.
use mathlib.Core.Path.{◌≡◌, refl, sym, ap, ◌∙◌}
use mathlib.Core.Logic.{◌↔◌}
use Prim.Native.Nat.{ℕ, ◌+◌, ◌≤◌, ◌<◌}
use native.Mathlib.Omega.{arith}
use native.Mathlib.Decide.{dec_lt}
use lib.ListN.{get_or, replicate, length-replicate, get_or-replicate, get_or-eq_default}
use lib.IntN.{pos}
use Rattle.codes.specs.Limits.{Limits, limits, var_limit}
use Rattle.store.specs.Store.{head_at}
use Rattle.store.specs.Rules.{chain, members, Zero, Rules}
use Rattle.store.specs.Empty.{empty}

zeros-at : {A : Type 0} (n i : ℕ) (a : A) → get_or (replicate n a) i a ≡ a
zeros-at n i a = go (dec_lt i n)
  where
    go : Dec (i < n) → get_or (replicate n a) i a ≡ a
    go (yes h) = get_or-replicate n i a a h
    go (no f) = get_or-eq_default (replicate n a) a (omega (arith, length-replicate n a))

module _ (m : Limits) (levels slots : ℕ) where
  empty-zero : (n : ℕ) → Zero (empty levels slots) n
  unfolding empty
  empty-zero n = record { level = zeros-at slots _ 0; then = zeros-at slots _ (pos 0); els = zeros-at slots _ (pos 0); next = zeros-at slots _ 0 }

  empty-chain : (b : ℕ) → chain ((empty levels slots).count + 1) (empty levels slots) (head_at (empty levels slots) b) ≡ members (empty levels slots) b (empty levels slots).count
  unfolding empty chain members
  empty-chain b = ap (chain 2 (empty levels slots)) (zeros-at 256 b 0)

  pub empty-rules : Rules m (empty levels slots) ↔ ((1 ≤ slots) × (levels ≤ m.levels) × (1 ≤ m.nodes))
  unfolding empty
  empty-rules = (
    λ R. (omega (arith, R.sizes.count_slots, length-replicate {A = ℕ} slots 0), R.sizes.levels_limit, R.sizes.count_limit),
    λ h. record {
      sizes = record {
        then_long = length-replicate slots (pos 0) ∙ sym (length-replicate {A = ℕ} slots 0);
        els_long = length-replicate slots (pos 0) ∙ sym (length-replicate {A = ℕ} slots 0);
        next_long = refl;
        count_some = omega arith;
        count_slots = omega (arith, length-replicate {A = ℕ} slots 0, h.0);
        count_limit = h.2;
        heads_long = length-replicate {A = ℕ} 256 0;
        levels_limit = h.1;
      };
      nodes = record { fits = λ n p q. absurd (omega arith); alone = λ a b p q x y. absurd (omega arith) };
      chains = λ b _. empty-chain b;
      zeros = record { first = empty-zero 1; unused = λ n p h. empty-zero n };
    },
  )

-- 'at most 4,096 levels', and from 1 slot on
pub empty-keeps : (levels slots : ℕ) → Rules limits (empty levels slots) ↔ ((1 ≤ slots) × (levels ≤ var_limit))
empty-keeps levels slots =
    let f = empty-rules limits levels slots in
    (λ R. let h = f.0 R in (h.0, h.1), λ h. f.1 (h.0, h.1, omega arith))
