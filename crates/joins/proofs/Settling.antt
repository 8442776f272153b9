-- A join that finds no room leaves the store as it was: the nodes that it made are taken back.
use mathlib.Core.Path.{◌≡◌, refl, ap, ◌∙◌}
use Prim.Native.Nat.{ℕ, ◌-◌, ◌≤◌}
use native.Mathlib.Omega.{arith}
use lib.ListN.{length}
use lib.IntN.{ℤ}
use Rattle.std.specs.Prelude.{Option}
use Rattle.codes.specs.Answer.{Read, value, refused}
use Rattle.codes.specs.Limits.{limits}
use Rattle.store.specs.Store.{Store}
use Rattle.store.specs.Rules.{Rules}
use Rattle.store.specs.Make.{Made}
use Rattle.store.specs.Make as nodes
use Rattle.store.specs.Growth.{Grows}
use Rattle.store.proofs.Back.{back-exact}
use Rattle.insertion.specs.Kinds.{of_making}
use Rattle.joined.specs.declared.Op.{Op}
use Rattle.joined.specs.Join.{join_of, Ready}
use Rattle.joined.specs.Roots.{settled_join_by, settled_join}
use Rattle.joined.proofs.Joins.{Joined, join-joined}
use Rattle.nodes.specs.Promises.{stays, TakeBackAsks, TakeBackPromise}
use Rattle.joins.specs.Promises.{SettlePromise}

-- the join has answered r and left τ, of whose nodes so many stay
module _ (o : Op) (σ : Store) (a b : ℤ) (Q : Ready limits σ a b) (r : Option ℤ) (τ : Store) (p : of_making r ≡ (join_of limits o σ a b).answer)
    (q : τ ≡ (join_of limits o σ a b).after) (to : ℕ) (T : to ≡ stays (of_making r) σ.count τ.count) where
  J : Joined limits o σ a b (join_of limits o σ a b)
  J = join-joined limits o σ a b Q

  rules : Rules limits τ
  rules = rw q J.rules

  grows : Grows σ τ
  grows = rw q J.grows

  long : length τ.level ≡ length σ.level
  long = rw q J.long

  pub back-asks : TakeBackAsks τ to
  back-asks = let e = go (of_making r) T in record { rules = rules; some = e.0; there = e.1 }
    where
      go : (x : Read ℤ) → to ≡ stays x σ.count τ.count → (1 ≤ to) × (to ≤ τ.count)
      go (value x) e = (omega (arith, rules.sizes.count_some), omega arith)
      go (refused n) e = (omega (arith, Q.rules.sizes.count_some), omega (arith, grows.count))

  settle : (υ : Store) → υ ≡ nodes.back (τ.count - to) τ
      → (of_making r ≡ (settled_join_by σ (of_making r) τ).answer) × (υ ≡ (settled_join_by σ (of_making r) τ).after)
  unfolding nodes.back
  settle υ z = go (of_making r) T
    where
      go : (x : Read ℤ) → to ≡ stays x σ.count τ.count → (x ≡ (settled_join_by σ x τ).answer) × (υ ≡ (settled_join_by σ x τ).after)
      go (value x) e = let n : τ.count - to ≡ 0 = omega arith in (refl, z ∙ ap (λ (k : ℕ). nodes.back k τ) n)
      go (refused n) e = (refl, z ∙ ap (λ (k : ℕ). nodes.back (τ.count - k) τ) e ∙ back-exact limits σ τ Q.rules rules grows long)

  pub back-settled : (υ : Store) → TakeBackPromise τ υ to → SettlePromise σ υ o a b r
  back-settled υ z =
      let s = settle υ z.store in
      record { answer = s.0 ∙ ap (λ (m : Made). m.answer) same; store = s.1 ∙ ap (λ (m : Made). m.after) same }
    where
      joined : ◌≡◌ {A = Made} (record { answer = of_making r; after = τ }) (join_of limits o σ a b)
      joined = rw (p, q)

      same : settled_join_by σ (of_making r) τ ≡ settled_join σ (join_of limits o σ a b)
      same = ap (λ (m : Made). settled_join σ m) joined
