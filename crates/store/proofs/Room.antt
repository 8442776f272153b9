-- Making nodes in a store, and in a roomier one beside it. While the first has room both find and make the same nodes; where it has none left the
-- other's count is past its slots or its limit. Document 01: '40 .. every slot lent, or [the limit], is used.'
use mathlib.Core.Path.{◌≡◌, refl, sym, ap, ◌∙◌}
use mathlib.Core.Logic.{◌⊎◌, inl, inr}
use mathlib.Core.Bool.{Bool, true, false, cond}
use mathlib.Core.List.{List, ◌++◌}
use Prim.Native.Nat.{ℕ, zero, suc, ◌+◌, ◌-◌, ◌≤◌, ◌<◌}
use native.Mathlib.Omega.{arith}
use native.Mathlib.Nat.{le_refl}
use native.Mathlib.Decide.{ℕ_discrete}
use borrow.Author.Tests.{lt-ltb}
use lib.ListN.{length, replicate, length-append, length-replicate, get_or-append}
use lib.IntN.{ℤ, pos, neg_ℤ}
use Rattle.codes.specs.Answer.{value, refused}
use Rattle.codes.specs.Limits.{Limits}
use Rattle.edges.specs.Edge.{minus, eq_z}
use Rattle.store.specs.Store.{Store, level_at, then_at, else_at}
use Rattle.store.specs.Rules.{Sizes}
use Rattle.store.specs.Make.{find_up_to, find, added, Made, made, full, room_for, placed_node, insert, negated, turned, make}
use Rattle.store.specs.Growth.{Grows}
use Rattle.store.specs.Room.{roomier, with_room}
use Rattle.store.proofs.Added.{added-grows, added-holds, added-count, added-length, added-sizes}
use Rattle.store.proofs.Makes.{room-true, room-false}

-- A store, and a roomier one with the same nodes, which has room for k more.
pub record Beside (m w : Limits) (k : ℕ) (σ τ : Store) : Type 0 where
  pub sizes : Sizes m σ
  pub roomy : Sizes w τ
  pub grows : Grows σ τ
  pub count : τ.count ≡ σ.count
  pub slots : τ.count + k ≤ length τ.level
  pub limit : τ.count + k ≤ w.nodes

-- room for fewer
pub beside-less : {m w : Limits} {σ τ : Store} (k : ℕ) → Beside m w (suc k) σ τ → Beside m w k σ τ
beside-less k B = record {
  sizes = B.sizes;
  roomy = B.roomy;
  grows = B.grows;
  count = B.count;
  slots = omega (arith, B.slots);
  limit = omega (arith, B.limit);
}

-- a search of the same nodes finds the same node
module _ {σ τ : Store} (G : Grows σ τ) (l : ℕ) (t e : ℤ) where
  find-up_to : (n : ℕ) → n ≤ σ.count → find_up_to τ l t e n ≡ find_up_to σ l t e n
  unfolding find_up_to
  find-up_to zero h = refl
  find-up_to (suc zero) h = refl
  find-up_to (suc (suc k)) h =
      let two : 2 ≤ suc (suc k) = omega arith in
      rw (G.level (suc (suc k)) two h, G.then (suc (suc k)) two h, G.els (suc (suc k)) two h, find-up_to (suc k) (omega arith))

  find-same : τ.count ≡ σ.count → find τ l t e ≡ find σ l t e
  unfolding find
  find-same q = ap (find_up_to τ l t e) q ∙ find-up_to σ.count (le_refl σ.count)

-- what all slots up to the newest hold, by what the old slots and the newest hold
slot_same : {A : Type 0} (f g : ℕ → A) (a : A) (c n : ℕ) → n ≤ c + 1 → (n ≤ c → f n ≡ g n) → f (c + 1) ≡ a → g (c + 1) ≡ a → f n ≡ g n
slot_same f g a c n h old x y = go (ℕ_discrete n (c + 1))
  where
    go : Dec (n ≡ c + 1) → f n ≡ g n
    go (yes q) = ap f q ∙ x ∙ sym (ap g q ∙ y)
    go (no z) = old (omega arith)

-- One node more in both. The roomier store has a slot for it.
module _ (m w : Limits) (σ τ : Store) (l : ℕ) (t e : ℤ) (k : ℕ) (B : Beside m w (suc k) σ τ) where
  roomy-slots : τ.count < length τ.level
  roomy-slots = omega (arith, B.slots)

  roomy-limit : τ.count < w.nodes
  roomy-limit = omega (arith, B.limit)

  roomy-room : room_for w τ ≡ true
  roomy-room = rw (lt-ltb τ.count (length τ.level) roomy-slots, lt-ltb τ.count w.nodes roomy-limit)

  module _ (h : σ.count < length σ.level) where
    -- the nodes stay the same
    both-grow : Grows (added σ l t e) (added τ l t e)
    both-grow =
        let G = added-grows m σ l t e B.sizes h in
        let H = added-grows w τ l t e B.roomy roomy-slots in
        let c = added-count m σ l t e B.sizes h in
        let d = added-count w τ l t e B.roomy roomy-slots in
        let X = added-holds m σ l t e B.sizes h in
        let Y = added-holds w τ l t e B.roomy roomy-slots in
        let q : σ.count + 1 ≡ τ.count + 1 = omega (arith, B.count) in
        record {
          levels = H.levels ∙ B.grows.levels ∙ sym G.levels;
          count = omega (arith, B.count);
          level = λ n p x. slot_same (level_at (added τ l t e)) (level_at (added σ l t e)) l σ.count n (omega arith)
              (λ y. H.level n p (omega (arith, B.count)) ∙ B.grows.level n p y ∙ sym (G.level n p y))
              (ap (level_at (added τ l t e)) q ∙ Y.level) X.level;
          then = λ n p x. slot_same (then_at (added τ l t e)) (then_at (added σ l t e)) t σ.count n (omega arith)
              (λ y. H.then n p (omega (arith, B.count)) ∙ B.grows.then n p y ∙ sym (G.then n p y))
              (ap (then_at (added τ l t e)) q ∙ Y.then) X.then;
          els = λ n p x. slot_same (else_at (added τ l t e)) (else_at (added σ l t e)) e σ.count n (omega arith)
              (λ y. H.els n p (omega (arith, B.count)) ∙ B.grows.els n p y ∙ sym (G.els n p y))
              (ap (else_at (added τ l t e)) q ∙ Y.els) X.els;
        }

    -- and there is room for one less
    both-added : σ.count < m.nodes → Beside m w k (added σ l t e) (added τ l t e)
    both-added j =
        let c = added-count m σ l t e B.sizes h in
        let d = added-count w τ l t e B.roomy roomy-slots in
        let n = added-length w τ l t e B.roomy roomy-slots in
        record {
          sizes = added-sizes m σ l t e B.sizes h j;
          roomy = added-sizes w τ l t e B.roomy roomy-slots roomy-limit;
          grows = both-grow;
          count = omega (arith, B.count);
          slots = omega (arith, B.slots);
          limit = omega (arith, B.limit);
        }

-- Within the slots lent and the limit.
abbrev pub Within : Limits → Store → ℕ → Type 0
Within m σ n = (n ≤ length σ.level) × (n ≤ m.nodes)

-- What a step gives in both: the same edge in stores with the same nodes; or no room in the first, and one node more in the roomier one.
pub data Pair (m w : Limits) (k : ℕ) (σ : Store) (r s : Made) : Type 0 where
  both : (a : ℤ) → r.answer ≡ value a → s.answer ≡ value a → length r.after.level ≡ length σ.level
      → Beside m w k r.after s.after → Pair m w k σ r s
  lacks : (a : ℤ) → r.answer ≡ refused 40 → s.answer ≡ value a → (Within m σ s.after.count → ⊥) → Pair m w k σ r s

module _ (m w : Limits) (σ τ : Store) (l : ℕ) (t e : ℤ) (k : ℕ) (B : Beside m w (suc k) σ τ) where
  -- a node with a positive then
  insert-pair : Pair m w k σ (insert m σ l t e) (insert w τ l t e)
  unfolding insert
  insert-pair = rw (find-same B.grows l t e B.count) (go (find σ l t e))
    where
      new : (b : Bool) → room_for m σ ≡ b
          → Pair m w k σ (cond b (made (pos (σ.count + 1)) (added σ l t e)) (full σ)) (made (pos (τ.count + 1)) (added τ l t e))
      new true q =
          let h = room-true m σ q in
          both (pos (σ.count + 1)) refl (ap (λ (n : ℕ). value (pos (n + 1))) B.count) (added-length m σ l t e B.sizes h.0)
          (both-added m w σ τ l t e k B h.0 h.1)
      new false q = lacks (pos (τ.count + 1)) refl refl (λ x. no_room x (room-false m σ B.sizes q))
        where
          no_room : Within m σ (added τ l t e).count → (σ.count ≡ length σ.level) ⊎ (σ.count ≡ m.nodes) → ⊥
          no_room x (inl z) = omega (arith, x.0, B.count, added-count w τ l t e B.roomy (roomy-slots m w σ τ l t e k B))
          no_room x (inr z) = omega (arith, x.1, B.count, added-count w τ l t e B.roomy (roomy-slots m w σ τ l t e k B))

      go : (n : ℕ) → Pair m w k σ (placed_node m σ l t e n) (placed_node w τ l t e n)
      go zero = rw (roomy-room m w σ τ l t e k B) (new (room_for m σ) refl)
      go (suc n) = both (pos (suc n)) refl refl refl (beside-less k B)

-- the same under a minus
turned_pair : {m w : Limits} {k : ℕ} {σ : Store} (r s : Made) → Pair m w k σ r s → Pair m w k σ (turned r) (turned s)
turned_pair r s (both a p q h B) = both (neg_ℤ a) (ap negated p) (ap negated q) h B
turned_pair r s (lacks a p q f) = lacks (neg_ℤ a) (ap negated p) (ap negated q) f

module _ (m w : Limits) (σ τ : Store) (k : ℕ) (B : Beside m w (suc k) σ τ) where
  -- an edge
  pub make-pair : (l : ℕ) (t e : ℤ) → Pair m w k σ (make m σ l t e) (make w τ l t e)
  unfolding make
  make-pair l t e = go (eq_z t e) (minus t)
    where
      go : (x y : Bool) → Pair m w k σ (cond x (made t σ) (cond y (turned (insert m σ l (neg_ℤ t) (neg_ℤ e))) (insert m σ l t e)))
          (cond x (made t τ) (cond y (turned (insert w τ l (neg_ℤ t) (neg_ℤ e))) (insert w τ l t e)))
      go true y = both t refl refl refl (beside-less k B)
      go false true = turned_pair (insert m σ l (neg_ℤ t) (neg_ℤ e)) (insert w τ l (neg_ℤ t) (neg_ℤ e))
          (insert-pair m w σ τ l (neg_ℤ t) (neg_ℤ e) k B)
      go false false = insert-pair m w σ τ l t e k B

-- The count never falls.
module _ (m : Limits) (σ : Store) where
  insert-count : (l : ℕ) (t e : ℤ) → σ.count ≤ (insert m σ l t e).after.count
  unfolding insert added
  insert-count l t e = go (find σ l t e)
    where
      new : (b : Bool) → σ.count ≤ (cond b (made (pos (σ.count + 1)) (added σ l t e)) (full σ)).after.count
      new true = omega arith
      new false = le_refl σ.count

      go : (n : ℕ) → σ.count ≤ (placed_node m σ l t e n).after.count
      go zero = new (room_for m σ)
      go (suc n) = le_refl σ.count

  pub make-count : (l : ℕ) (t e : ℤ) → σ.count ≤ (make m σ l t e).after.count
  unfolding make
  make-count l t e = go (eq_z t e) (minus t)
    where
      go : (x y : Bool) → σ.count ≤ (cond x (made t σ) (cond y (turned (insert m σ l (neg_ℤ t) (neg_ℤ e))) (insert m σ l t e))).after.count
      go true y = le_refl σ.count
      go false true = insert-count l (neg_ℤ t) (neg_ℤ e)
      go false false = insert-count l t e

-- k entries more
longer : {A : Type 0} (xs : List A) (k : ℕ) (d : A) → length (xs ++ replicate k d) ≡ length xs + k
longer xs k d = length-append xs (replicate k d) ∙ ap (length xs +◌) (length-replicate k d)

-- A store beside itself with k slots more, where the limit is its count and k.
pub roomier-beside : (m : Limits) (k : ℕ) (σ : Store) → Sizes m σ
    → Beside m (with_room k σ) k σ (roomier k σ)
unfolding roomier
roomier-beside m k σ z =
    let c = z.count_slots in
    let l = longer σ.level k 0 in
    record {
      sizes = z;
      roomy = record {
        then_long = longer σ.then k (pos 0) ∙ omega (arith, z.then_long);
        els_long = longer σ.els k (pos 0) ∙ omega (arith, z.els_long);
        next_long = longer σ.next k 0 ∙ omega (arith, z.next_long);
        count_some = z.count_some;
        count_slots = omega arith;
        count_limit = omega arith;
        heads_long = z.heads_long;
        levels_limit = le_refl σ.levels;
      };
      grows = record {
        levels = refl;
        count = le_refl σ.count;
        level = λ n p h. get_or-append σ.level (replicate k 0) 0 (n - 1) (omega arith);
        then = λ n p h. get_or-append σ.then (replicate k (pos 0)) (pos 0) (n - 1) (omega (arith, z.then_long));
        els = λ n p h. get_or-append σ.els (replicate k (pos 0)) (pos 0) (n - 1) (omega (arith, z.els_long));
      };
      count = refl;
      slots = omega arith;
      limit = le_refl (σ.count + k);
    }
