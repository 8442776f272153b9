-- Limits that allow at least as much, and stores with the same nodes. Document 02, request 5: 'Roots taken before and after the turn compare as if read
-- into the wide store from its start.'
use mathlib.Core.Path.{◌≡◌, refl, sym, ◌∙◌}
use Prim.Native.Nat.{ℕ}
use native.Mathlib.Omega.{arith}
use native.Mathlib.Nat.{le_trans}
use lib.ListN.{length}
use Rattle.codes.specs.Limits.{Limits}
use Rattle.store.specs.Store.{Store}
use Rattle.store.specs.Rules.{Rules}
use Rattle.store.proofs.Growth.{grows-refl, grows-trans}
use Rattle.store.proofs.Room.{Beside}
use Rattle.store.proofs.Chain.{rules-same}
use Rattle.widened.specs.OldLimits.{Wider}
use Rattle.turns.specs.Wide.{SameNodes}

-- a store that keeps the rules keeps them under limits that allow more
pub rules-wider : {m w : Limits} {σ : Store} → Wider m w → Rules m σ → Rules w σ
rules-wider W R =
    let z = R.sizes in
    record {
      sizes = record {
        then_long = z.then_long;
        els_long = z.els_long;
        next_long = z.next_long;
        count_some = z.count_some;
        count_slots = z.count_slots;
        count_limit = le_trans z.count_limit W.nodes;
        heads_long = z.heads_long;
        levels_limit = le_trans z.levels_limit W.levels;
      };
      nodes = R.nodes;
      chains = R.chains;
      zeros = R.zeros;
    }

-- and has the same nodes as itself
pub same_self : {m w : Limits} {σ : Store} → Wider m w → Rules m σ → SameNodes m w σ σ
same_self {σ = σ} W R = record { rules = R; wide_rules = rules-wider W R; count = refl; grows = grows-refl σ }

-- what making nodes looks at of two such stores
pub same_beside : {m w : Limits} {σ τ : Store} → SameNodes m w σ τ → Beside m w 0 σ τ
same_beside S =
    let z = S.wide_rules.sizes in
    record {
      sizes = S.rules.sizes;
      roomy = z;
      grows = S.grows;
      count = S.count;
      slots = omega (arith, z.count_slots);
      limit = omega (arith, z.count_limit);
    }

pub beside_same : {m w : Limits} {σ τ : Store} → Rules m σ → Rules w τ → Beside m w 0 σ τ → SameNodes m w σ τ
beside_same R S B = record { rules = R; wide_rules = S; count = B.count; grows = B.grows }

-- Two stores with the nodes of a third, and as many slots, are one.
pub same-across : {m w : Limits} {σ τ υ : Store} → SameNodes m w σ τ → SameNodes m w σ υ → length τ.level ≡ length υ.level → τ ≡ υ
same-across {w = w} {σ} {τ} {υ} S T q =
    let G = S.grows in
    let H = T.grows in
    let c = S.count in
    rules-same w τ υ S.wide_rules T.wide_rules (S.count ∙ sym T.count) q
    (record {
      level = λ n p h. G.level n p (omega arith) ∙ sym (H.level n p (omega arith));
      then = λ n p h. G.then n p (omega arith) ∙ sym (H.then n p (omega arith));
      els = λ n p h. G.els n p (omega arith) ∙ sym (H.els n p (omega arith));
    })
    (G.levels ∙ sym H.levels)

-- so one with as many slots as the other is the other
pub same-slots : {m w : Limits} {σ τ : Store} → Wider m w → SameNodes m w σ τ → length τ.level ≡ length σ.level → τ ≡ σ
same-slots W S q = same-across S (same_self W S.rules) q

-- Two stores that stand beside one roomier store.
module _ {m w v : Limits} {σ τ υ : Store} {k : ℕ} where
  -- the roomier one of the second is one of the first
  pub beside-further : Beside m w 0 σ τ → Beside w v k τ υ → Beside m v k σ υ
  beside-further B C = record {
    sizes = B.sizes;
    roomy = C.roomy;
    grows = grows-trans B.grows C.grows;
    count = C.count ∙ B.count;
    slots = C.slots;
    limit = C.limit;
  }

  -- two with one roomier store stand beside each other
  pub beside-across : Beside m v k σ υ → Beside w v k τ υ → Beside m w 0 σ τ
  beside-across B C =
      let G = B.grows in
      let H = C.grows in
      let q : τ.count ≡ σ.count = sym C.count ∙ B.count in
      record {
        sizes = B.sizes;
        roomy = C.sizes;
        grows = record {
          levels = sym H.levels ∙ G.levels;
          count = omega arith;
          level = λ n p h. sym (H.level n p (omega arith)) ∙ G.level n p h;
          then = λ n p h. sym (H.then n p (omega arith)) ∙ G.then n p h;
          els = λ n p h. sym (H.els n p (omega arith)) ∙ G.els n p h;
        };
        count = q;
        slots = omega (arith, C.sizes.count_slots);
        limit = omega (arith, C.sizes.count_limit);
      }
