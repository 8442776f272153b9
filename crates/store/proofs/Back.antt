-- Taking nodes back is exact: a store that keeps the rules is settled by its nodes, so that what was made since an earlier store is taken
-- back to that very store, in whatever way it was made. Document 01, 'On any refusal .. the store is unchanged'.
use mathlib.Core.Path.{◌≡◌, refl, sym, ◌∙◌}
use mathlib.Core.Logic.{◌≢◌}
use Prim.Native.Nat.{ℕ, zero, suc, ◌+◌, ◌-◌, ◌≤◌, ◌<◌}
use native.Mathlib.Omega.{arith}
use native.Mathlib.Decide.{ℕ_discrete}
use lib.ListN.{length, length-set}
use lib.Seq.{get_or-set_same, get_or-set_other}
use lib.IntN.{pos}
use Rattle.store.specs.Store.{Store}
use Rattle.codes.specs.Limits.{Limits}
use Rattle.store.specs.Rules.{Sizes, Zero, Zeros, Rules}
use Rattle.store.specs.Make.{dropped, back}
use Rattle.store.specs.Growth.{Grows}
use Rattle.store.proofs.Growth.{grows-refl, grows-trans, fewer-nodes}
use Rattle.store.proofs.Chain.{dropped-agree, dropped-chains, rules-same}

-- One node less.
module _ (m : Limits) (σ : Store) (R : Rules m σ) (h : 2 ≤ σ.count) where
  pub dropped-grows : Grows (dropped σ) σ
  unfolding dropped
  dropped-grows = let A = dropped-agree m σ R.sizes h in record
      { levels = refl; count = omega arith; level = λ n p k. sym (A.level n p k); then = λ n p k. sym (A.then n p k); els = λ n p k. sym (A.els n p k) }

  pub dropped-long : length (dropped σ).level ≡ length σ.level
  unfolding dropped
  dropped-long = simp length-set

  pub dropped-count : (dropped σ).count ≡ σ.count - 1
  unfolding dropped
  dropped-count = refl

  dropped-sizes : Sizes m (dropped σ)
  unfolding dropped
  dropped-sizes = let z = R.sizes in record {
    then_long = simp length-set z.then_long;
    els_long = simp length-set z.els_long;
    next_long = simp length-set z.next_long;
    count_some = omega arith;
    count_slots = simp length-set (omega (arith, z.count_slots));
    count_limit = omega (arith, z.count_limit);
    heads_long = simp length-set z.heads_long;
    levels_limit = z.levels_limit;
  }

  dropped-zeros : Zeros (dropped σ)
  unfolding dropped
  dropped-zeros = record { first = other 1 (λ q. omega arith) R.zeros.first; unused = λ n p k. unused n p (rw (length-set σ.level (σ.count - 1) 0) at k) (ℕ_discrete n σ.count) }
    where
      other : (n : ℕ) → n - 1 ≢ σ.count - 1 → Zero σ n → Zero (dropped σ) n
      other n f w = record {
        level = get_or-set_other σ.level (σ.count - 1) (n - 1) 0 0 f ∙ w.level;
        then = get_or-set_other σ.then (σ.count - 1) (n - 1) (pos 0) (pos 0) f ∙ w.then;
        els = get_or-set_other σ.els (σ.count - 1) (n - 1) (pos 0) (pos 0) f ∙ w.els;
        next = get_or-set_other σ.next (σ.count - 1) (n - 1) 0 0 f ∙ w.next;
      }

      unused : (n : ℕ) → σ.count - 1 < n → n ≤ length σ.level → Dec (n ≡ σ.count) → Zero (dropped σ) n
      unused n p k (yes q) = let z = R.sizes in rw q (record {
        level = get_or-set_same σ.level (σ.count - 1) 0 0 (omega (arith, z.count_slots));
        then = get_or-set_same σ.then (σ.count - 1) (pos 0) (pos 0) (omega (arith, z.count_slots, z.then_long));
        els = get_or-set_same σ.els (σ.count - 1) (pos 0) (pos 0) (omega (arith, z.count_slots, z.els_long));
        next = get_or-set_same σ.next (σ.count - 1) 0 0 (omega (arith, z.count_slots, z.next_long));
      })
      unused n p k (no f) = other n (λ q. f (omega arith)) (R.zeros.unused n (omega arith) k)

  pub dropped-rules : Rules m (dropped σ)
  dropped-rules = record
      { sizes = dropped-sizes; nodes = fewer-nodes dropped-grows R.nodes; chains = dropped-chains m σ R.sizes h R.chains; zeros = dropped-zeros }

-- The newest k nodes taken back: fewer than there are, so that node 1 stays.
pub record TakenBack (m : Limits) (k : ℕ) (τ σ : Store) : Type 0 where
  pub rules : Rules m σ
  pub grows : Grows σ τ
  pub count : σ.count + k ≡ τ.count
  pub long : length σ.level ≡ length τ.level

pub taken_back : (m : Limits) (k : ℕ) (τ : Store) → Rules m τ → k < τ.count → TakenBack m k τ (back k τ)
unfolding back
taken_back m zero τ R h = record { rules = R; grows = grows-refl τ; count = omega arith; long = refl }
taken_back m (suc k) τ R h =
    let two : 2 ≤ τ.count = omega arith in
    let c = dropped-count m τ R two in
    let T = taken_back m k (dropped τ) (dropped-rules m τ R two) (omega arith) in
    record
    { rules = T.rules; grows = grows-trans T.grows (dropped-grows m τ R two); count = omega (arith, T.count); long = T.long ∙ dropped-long m τ R two }

-- what was made since is taken back exactly
pub back-exact : (m : Limits) (σ τ : Store) → Rules m σ → Rules m τ → Grows σ τ → length τ.level ≡ length σ.level → back (τ.count - σ.count) τ ≡ σ
back-exact m σ τ R S G q =
    let k : ℕ = τ.count - σ.count in
    let T = taken_back m k τ S (omega (arith, G.count, R.sizes.count_some)) in
    let c : (back k τ).count ≡ σ.count = omega (arith, T.count, G.count) in
    rules-same m (back k τ) σ T.rules R c (T.long ∙ q)
    (record {
      level = λ n p h. sym (T.grows.level n p h) ∙ G.level n p (omega arith);
      then = λ n p h. sym (T.grows.then n p h) ∙ G.then n p (omega arith);
      els = λ n p h. sym (T.grows.els n p h) ∙ G.els n p (omega arith);
    })
    (sym T.grows.levels ∙ G.levels)
