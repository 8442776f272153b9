-- Making a node and taking it back, in the form in which the code leaves the lent lists.
use mathlib.Core.Path.{◌≡◌, refl, sym, ap, ◌∙◌}
use mathlib.Core.Bool.{Bool, true, false}
use Prim.Native.Nat.{ℕ, zero, suc, ◌+◌, ◌-◌, ◌≤◌, ◌<◌}
use native.Mathlib.Omega.{arith}
use lib.ListN.{length, set}
use lib.IntN.{ℤ, pos}
use Rattle.edges.specs.Width.{edge_width}
use mir.Val.{to_z, of_z}
use Rattle.codes.specs.Answer.{Read, value, refused}
use Rattle.edges.specs.Edge.{IsEdge, bucket_of}
use Rattle.edges.proofs.Signed.{edge-back}
use Rattle.store.specs.Store.{Store, store, level_at, then_at, else_at, next_at, head_at}
use Rattle.codes.specs.Limits.{Limits, limits}
use Rattle.store.specs.Rules.{Sizes, Rules, bucket}
use Rattle.store.specs.Make.{added, dropped, back, room_for, find, insert}
use Rattle.store.proofs.Find.{find-some}
use Rattle.store.proofs.Makes.{room-true}
use Rattle.store.proofs.Back.{dropped-long, dropped-count, dropped-rules}

module _ (σ : Store) where
  -- a record in the next slot, and its number as the head of its chain
  pub slot-filled : (l b : ℕ) (t t' e e' : ℤ) → t' ≡ t → e' ≡ e → b ≡ bucket_of l t' e'
      → store σ.levels (σ.count + 1) (set σ.level σ.count l) (set σ.then σ.count t') (set σ.els σ.count e')
      (set σ.next σ.count (head_at σ b)) (set σ.heads b (σ.count + 1))
      ≡ added σ l t e
  unfolding added
  slot-filled l b t t' e e' p q h = rw (h, p, q)

  -- zeros in the newest slot, and what was its next as the head of its chain
  pub slot-cleared : (b : ℕ) (t e : ℤ) → t ≡ then_at σ σ.count → e ≡ else_at σ σ.count → b ≡ bucket_of (level_at σ σ.count) t e
      → store σ.levels (σ.count - 1) (set σ.level (σ.count - 1) 0) (set σ.then (σ.count - 1) (pos 0)) (set σ.els (σ.count - 1) (pos 0))
      (set σ.next (σ.count - 1) 0) (set σ.heads b (next_at σ σ.count))
      ≡ dropped σ
  unfolding dropped bucket
  slot-cleared b t e p q h = rw (h, p, q)

module _ (m : Limits) (σ : Store) where
  -- found, full or new: the answer and the store afterwards
  module _ (l : ℕ) (t e : ℤ) where
    pub insert-found : (n : ℕ) → n ≡ find σ l t e → (n ≡ 0 → ⊥) → (a : Read ℤ) → a ≡ value (pos n) → (a ≡ (insert m σ l t e).answer) × (σ ≡ (insert m σ l t e).after)
    unfolding insert
    insert-found zero q f a h = absurd (f refl)
    insert-found (suc n) q f a h = (h ∙ rw (← q), rw (← q))

    module _ (n : ℕ) (q : n ≡ find σ l t e) (z : n ≡ 0) (x : Bool) (p : x ≡ room_for m σ) where
      pub insert-full : x ≡ false → (refused 40 ≡ (insert m σ l t e).answer) × (σ ≡ (insert m σ l t e).after)
      unfolding insert
      insert-full y = (rw (← q, z, ← p, y), rw (← q, z, ← p, y))

      pub insert-new : x ≡ true → (a : Read ℤ) → a ≡ value (pos (σ.count + 1)) → (τ : Store) → τ ≡ added σ l t e
          → (a ≡ (insert m σ l t e).answer) × (τ ≡ (insert m σ l t e).after)
      unfolding insert
      insert-new y a h τ k = (h ∙ rw (← q, z, ← p, y), k ∙ rw (← q, z, ← p, y))

-- the number of a node as an edge
pub found-edge : (σ : Store) (l : ℕ) (t e : ℤ) (n : ℕ) → Sizes limits σ → n ≡ find σ l t e → (n ≡ 0 → ⊥) → IsEdge (pos n)
found-edge σ l t e n z q f = let k : 0 < find σ l t e = omega arith in omega (arith, (find-some σ l t e k).1, z.count_limit)

pub new-edge : (σ : Store) (x : Bool) → x ≡ room_for limits σ → x ≡ true → IsEdge (pos (σ.count + 1))
new-edge σ x p y = omega (arith, (room-true limits σ (sym p ∙ y)).1)

pub node-answer : (a : ℤ) (n : ℕ) → a ≡ pos n → IsEdge (pos n) → value (to_z edge_width (of_z edge_width a)) ≡ value (pos n)
node-answer a n q h = rw q (ap value (edge-back edge_width (pos n) h))

-- Taking back, one node after the other: τ has been reached from σ on the way to node `to`.
pub record Returning (m : Limits) (σ : Store) (to : ℕ) (τ : Store) : Type 0 where
  pub rules : Rules m τ
  pub low : to ≤ τ.count
  pub rest : back (τ.count - to) τ ≡ back (σ.count - to) σ
  pub long : length τ.level ≡ length σ.level

module _ (m : Limits) (σ : Store) (to : ℕ) where
  pub return-start : Rules m σ → to ≤ σ.count → Returning m σ to σ
  return-start R h = record { rules = R; low = h; rest = refl; long = refl }

  module _ (τ : Store) (r : Returning m σ to τ) where
    pub return-more : 1 ≤ to → to < τ.count → (υ : Store) → υ ≡ dropped τ → Returning m σ to υ
    unfolding back
    return-more p h υ q =
        let two : 2 ≤ τ.count = omega arith in
        let c = dropped-count m τ r.rules two in
        let n : τ.count - to ≡ suc (τ.count - 1 - to) = omega arith in
        rw q (record {
          rules = dropped-rules m τ r.rules two;
          low = omega (arith, c);
          rest = ap (λ (k : ℕ). back (k - to) (dropped τ)) c ∙ sym (ap (λ (k : ℕ). back k τ) n) ∙ r.rest;
          long = dropped-long m τ r.rules two ∙ r.long;
        })

    pub return-less : to < τ.count → (υ : Store) → υ ≡ dropped τ → υ.count < τ.count
    unfolding dropped
    return-less h υ q = rw q (omega arith)

    pub return-end : τ.count ≤ to → τ ≡ back (σ.count - to) σ
    unfolding back
    return-end h = let z : τ.count - to ≡ 0 = omega arith in sym (ap (λ (k : ℕ). back k τ) z) ∙ r.rest
