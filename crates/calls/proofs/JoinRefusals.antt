-- A join, or an opposite, is refused with a number exactly where the rule of that refusal is broken, and none before it.
use mathlib.Core.Path.{◌≡◌, refl, sym, ap, subst}
use mathlib.Core.Logic.{◌↔◌}
use Prim.Native.Nat.{ℕ}
use native.Mathlib.Omega.{arith}
use lib.IntN.{ℤ}
use Rattle.codes.specs.Answer.{refused}
use Rattle.codes.specs.Limits.{Limits}
use Rattle.store.specs.Store.{Store}
use Rattle.joined.specs.declared.Op.{Op}
use Rattle.joined.specs.Roots.{join_roots, opposite_root}
use Rattle.joined.proofs.Joins.{refused-one}
use Rattle.joined.proofs.Roots.{join-cases, broken-join, unrooted-join, crowded-join, crowded-refused, opposite-cases}
use Rattle.calls.specs.Refusals.{JoinRefused, join_broken, root_bad, join_crowded, OppositeRefused, opposite_broken, opposite_bad}

module _ (m : Limits) (o : Op) (σ : Store) (a b : ℤ) where
  -- what a join is refused for
  join-why : (n : ℕ) → (join_roots m o σ a b).answer ≡ refused n → JoinRefused m o σ a b n
  join-why n = join-cases m o σ a b (λ r. r.answer ≡ refused n → JoinRefused m o σ a b n)
      (λ w q. subst (JoinRefused m o σ a b) (refused-one 3 n q) (join_broken w))
      (λ R w q. subst (JoinRefused m o σ a b) (refused-one 4 n q) (root_bad R w))
      (λ Q q. let w = crowded-refused m o σ a b Q n q in subst (JoinRefused m o σ a b) (sym w.0) (join_crowded Q w.1))

  -- and that it is refused so
  why-join : {n : ℕ} → JoinRefused m o σ a b n → (join_roots m o σ a b).answer ≡ refused n
  why-join (join_broken w) = ap (λ r. r.answer) (broken-join m o σ a b w)
  why-join (root_bad R w) = ap (λ r. r.answer) (unrooted-join m o σ a b R w)
  why-join (join_crowded Q w) = ap (λ r. r.answer) (crowded-join m o σ a b Q w)

  -- A join is refused with a number exactly so.
  pub join-refused-exactly : (n : ℕ) → ((join_roots m o σ a b).answer ≡ refused n) ↔ JoinRefused m o σ a b n
  join-refused-exactly n = (join-why n, λ w. why-join w)

module _ (m : Limits) (σ : Store) (a : ℤ) where
  opposite-why : (n : ℕ) → opposite_root m σ a ≡ refused n → OppositeRefused m σ a n
  opposite-why n = opposite-cases m σ a (λ r. r ≡ refused n → OppositeRefused m σ a n)
      (λ w q. subst (OppositeRefused m σ a) (refused-one 3 n q) (opposite_broken w))
      (λ R w q. subst (OppositeRefused m σ a) (refused-one 4 n q) (opposite_bad R w))
      (λ R E q. absurd (let z : ◌≡◌ {A = ℕ} 0 1 = cc in omega arith))

  why-opposite : {n : ℕ} → OppositeRefused m σ a n → opposite_root m σ a ≡ refused n
  why-opposite (opposite_broken w) =
      opposite-cases m σ a (λ r. r ≡ refused 3) (λ u. refl) (λ R u. absurd (w R)) (λ R E. absurd (w R))
  why-opposite (opposite_bad R w) =
      opposite-cases m σ a (λ r. r ≡ refused 4) (λ u. absurd (u R)) (λ R u. refl) (λ R E. absurd (w E))

  -- An opposite is refused with a number exactly so.
  pub opposite-refused-exactly : (n : ℕ) → (opposite_root m σ a ≡ refused n) ↔ OppositeRefused m σ a n
  opposite-refused-exactly n = (opposite-why n, λ w. why-opposite w)
