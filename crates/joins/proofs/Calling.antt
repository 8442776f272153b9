-- What refuses a join, in the order of the checks, by the code's tests; and what a call leaves by that.
use mathlib.Core.Path.{◌≡◌, refl, sym, ap, ◌∙◌}
use mathlib.Core.Logic.{◌≢◌}
use mathlib.Core.Bool.{Bool, true, false, cond, ◌&&◌}
use Prim.Native.Nat.{ℕ}
use native.Mathlib.Omega.{arith}
use lib.IntN.{ℤ}
use Rattle.std.specs.Prelude.{Option, Some, None, Err}
use Rattle.std.specs.Option.{ok_or}
use Rattle.edges.specs.Edge.{IsEdge}
use Rattle.codes.specs.Limits.{limits}
use Rattle.codes.specs.Refusals.{number_of, read_of}
use Rattle.codes.specs.declared.refusal.Refusal.{Refusal}
use Rattle.codes.specs.declared.refusal.Refusal.TheVariants as refusal
use Rattle.codes.proofs.Numbered.{number-not-none}
use Rattle.store.specs.Store.{Store}
use Rattle.store.specs.Keeps.{keeps, keeps-true}
use Rattle.store.specs.Growth.{is_root}
use Rattle.store.specs.Make.{Made}
use Rattle.store.proofs.Growth.{root-edge}
use Rattle.insertion.specs.Kinds.{of_making}
use Rattle.joined.specs.declared.Op.{Op}
use Rattle.joined.specs.Join.{join_of, Ready}
use Rattle.joined.specs.Roots.{refused_with, settled_join, join_roots}
use Rattle.joins.specs.Promises.{join_fault, SettlePromise, RootsPromise}

-- '3, 4', by the two tests
abbrev fault : Bool → Bool → ℕ
fault x y = cond x (cond y 0 4) 3

module _ (o : Op) (σ : Store) (a b : ℤ) where
  -- where nothing refuses it, two edges of the store may be joined
  pub fault-ready : 0 ≡ join_fault limits σ a b → Ready limits σ a b
  fault-ready = go (keeps limits σ) refl (is_root σ a) refl (is_root σ b) refl
    where
      go : (x : Bool) → keeps limits σ ≡ x → (y : Bool) → is_root σ a ≡ y → (z : Bool) → is_root σ b ≡ z → 0 ≡ fault x (y && z) → Ready limits σ a b
      go true p true q true r e = record { rules = keeps-true limits σ p; left = root-edge σ a q; right = root-edge σ b r }
      go true p true q false r e = absurd (omega arith)
      go true p false q z r e = absurd (omega arith)
      go false p y q z r e = absurd (omega arith)

  -- and what the call leaves is settled_join by the join
  pub fault-joins : 0 ≡ join_fault limits σ a b → join_roots limits o σ a b ≡ settled_join σ (join_of limits o σ a b)
  unfolding join_roots
  fault-joins = go (keeps limits σ) (is_root σ a && is_root σ b)
    where
      go : (x y : Bool) → 0 ≡ fault x y
          → cond x (cond y (settled_join σ (join_of limits o σ a b)) (refused_with 4 σ)) (refused_with 3 σ) ≡ settled_join σ (join_of limits o σ a b)
      go true true e = refl
      go true false e = absurd (omega arith)
      go false y e = absurd (omega arith)

  pub fault-refuses : join_fault limits σ a b ≢ 0 → join_roots limits o σ a b ≡ refused_with (join_fault limits σ a b) σ
  unfolding join_roots
  fault-refuses = go (keeps limits σ) (is_root σ a && is_root σ b)
    where
      go : (x y : Bool) → fault x y ≢ 0
          → cond x (cond y (settled_join σ (join_of limits o σ a b)) (refused_with 4 σ)) (refused_with 3 σ) ≡ refused_with (fault x y) σ
      go true true f = absurd (f refl)
      go true false f = refl
      go false y f = refl

  -- the call, refused before any node is made
  pub roots-refused : (r : Refusal) → number_of r ≡ join_fault limits σ a b → RootsPromise σ σ o a b (Err r)
  roots-refused r q =
      let e : refused_with (number_of r) σ ≡ join_roots limits o σ a b =
      ap (λ n. refused_with n σ) q ∙ sym (fault-refuses (λ z. number-not-none r (q ∙ z))) in
      record { answer = ap (λ (m : Made). m.answer) e; store = ap (λ (m : Made). m.after) e }

  -- or joined, as far as there is room
  pub roots-joined : 0 ≡ join_fault limits σ a b → (τ : Store) (r : Option ℤ) → SettlePromise σ τ o a b r
      → RootsPromise σ τ o a b (ok_or r refusal.NoRoom)
  roots-joined q τ r S =
      let e = sym (fault-joins q) in
      record { answer = same r ∙ S.answer ∙ ap (λ (m : Made). m.answer) e; store = S.store ∙ ap (λ (m : Made). m.after) e }
    where
      same : (r : Option ℤ) → read_of (ok_or r refusal.NoRoom) ≡ of_making r
      same (Some x) = refl
      same None = refl

-- a root of a store that keeps its rules is an edge
pub root-width : (σ : Store) (a : ℤ) → keeps limits σ ≡ true → is_root σ a ≡ true → IsEdge a
root-width σ a k r =
    let E = root-edge σ a r in
    let R = keeps-true limits σ k in
    omega (arith, E.there, R.sizes.count_limit)
