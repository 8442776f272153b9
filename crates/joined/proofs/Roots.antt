-- Two roots joined, and the opposite of one, as calls: what they are refused with, that a refusal leaves the store as it is, and what the root
-- means otherwise.
use mathlib.Core.Path.{◌≡◌, refl, sym, ap, subst, ◌∙◌}
use mathlib.Core.Logic.{◌↔◌}
use mathlib.Core.Bool.{Bool, true, false, not, cond, ◌&&◌, true≢false}
use Prim.Native.Nat.{ℕ}
use lib.ListN.{length}
use lib.IntN.{ℤ, neg_ℤ}
use Rattle.codes.specs.Answer.{Read, value, refused}
use Rattle.codes.specs.Limits.{Limits}
use Rattle.codes.proofs.Bytes.{both}
use Rattle.store.specs.Store.{Store}
use Rattle.store.specs.Rules.{Rules}
use Rattle.store.specs.Keeps.{keeps, keeps-true, keeps-false}
use Rattle.store.specs.Meaning.{Setting, answer}
use Rattle.store.specs.Make.{Made, made}
use Rattle.store.specs.Growth.{EdgeOf, is_root, Grows}
use Rattle.store.proofs.Growth.{root-edge, edge-root, grows-refl}
use Rattle.store.proofs.Meaning.{opposite-edge, answer-opposite}
use Rattle.joined.specs.declared.Op.{Op}
use Rattle.joined.specs.Join.{join_of, Ready}
use Rattle.joined.specs.Room.{JoinFits}
use Rattle.joined.specs.Roots.{refused_with, settled_join_by, settled_join, join_roots, opposite_root}
use Rattle.joined.proofs.Joins.{Result, join-joined, value-one, refused-one, not-value, no-refusal}
use Rattle.joined.proofs.Room.{join-room}

-- what makes a test true doesn't hold where the test is false
untrue : (b : Bool) {P : Type 0} → (P → b ≡ true) → b ≡ false → P → ⊥
untrue b f q p = true≢false (sym (f p) ∙ q)

-- what is settled_join is given as it was made, or refused with the store as it was
settled-cases : (P : Made → Type 0) (σ : Store) (r : Made) → ((x : ℤ) → r.answer ≡ value x → P (made x r.after))
    → ((n : ℕ) → r.answer ≡ refused n → P (refused_with n σ)) → P (settled_join σ r)
settled-cases P σ r f g = go r.answer refl
  where
    go : (q : Read ℤ) → r.answer ≡ q → P (settled_join_by σ q r.after)
    go (value x) e = f x e
    go (refused n) e = g n e

module _ (m : Limits) (o : Op) (σ : Store) (a b : ℤ) where
  -- the three ways that a join of roots goes, in their order
  pub join-cases : (P : Made → Type 0) → ((Rules m σ → ⊥) → P (refused_with 3 σ))
      → (Rules m σ → ((EdgeOf σ a × EdgeOf σ b) → ⊥) → P (refused_with 4 σ)) → (Ready m σ a b → P (settled_join σ (join_of m o σ a b)))
      → P (join_roots m o σ a b)
  unfolding join_roots
  join-cases P f g h = go (keeps m σ) (is_root σ a && is_root σ b) refl refl
    where
      go : (k r : Bool) → keeps m σ ≡ k → (is_root σ a && is_root σ b) ≡ r
          → P (cond k (cond r (settled_join σ (join_of m o σ a b)) (refused_with 4 σ)) (refused_with 3 σ))
      go false r p q = f (keeps-false m σ p)
      go true false p q = g (keeps-true m σ p) (untrue (is_root σ a && is_root σ b) (λ w. rw (edge-root σ a w.0) (edge-root σ b w.1)) q)
      go true true p q =
          let w = both (is_root σ a) (is_root σ b) q in
          h (record { rules = keeps-true m σ p; left = root-edge σ a w.0; right = root-edge σ b w.1 })

  -- and where it goes each of them
  pub broken-join : (Rules m σ → ⊥) → join_roots m o σ a b ≡ refused_with 3 σ
  broken-join w = join-cases (λ r. r ≡ refused_with 3 σ) (λ u. refl) (λ R u. absurd (w R)) (λ Q. absurd (w Q.rules))

  pub unrooted-join : Rules m σ → ((EdgeOf σ a × EdgeOf σ b) → ⊥) → join_roots m o σ a b ≡ refused_with 4 σ
  unrooted-join R w = join-cases (λ r. r ≡ refused_with 4 σ) (λ u. absurd (u R)) (λ S u. refl) (λ Q. absurd (w (Q.left, Q.right)))

  ready-join : Ready m σ a b → join_roots m o σ a b ≡ settled_join σ (join_of m o σ a b)
  ready-join Q = join-cases (λ r. r ≡ settled_join σ (join_of m o σ a b)) (λ u. absurd (u Q.rules)) (λ R u. absurd (u (Q.left, Q.right))) (λ S. refl)

  -- 'On any refusal .. the store is unchanged'
  pub join-refused : (n : ℕ) → (join_roots m o σ a b).answer ≡ refused n → join_roots m o σ a b ≡ refused_with n σ
  join-refused n = join-cases (λ r. r.answer ≡ refused n → r ≡ refused_with n σ) (λ w. same 3) (λ R w. same 4)
      (λ Q. settled-cases (λ r. r.answer ≡ refused n → r ≡ refused_with n σ) σ (join_of m o σ a b) (λ x p q. no-refusal n x q) (λ k p. same k))
    where
      same : (k : ℕ) → ◌≡◌ {A = Read ℤ} (refused k) (refused n) → refused_with k σ ≡ refused_with n σ
      same k q = ap (λ i. refused_with i σ) (refused-one k n q)

  -- '40 only where those nodes don't fit'
  pub crowded-refused : Ready m σ a b → (n : ℕ) → (settled_join σ (join_of m o σ a b)).answer ≡ refused n → (n ≡ 40) × (JoinFits m o σ a b → ⊥)
  crowded-refused Q n = settled-cases (λ r. r.answer ≡ refused n → (n ≡ 40) × (JoinFits m o σ a b → ⊥)) σ (join_of m o σ a b)
      (λ x p q. no-refusal n x q)
      (λ k p q. (sym (refused-one k n q) ∙ (join-joined m o σ a b Q).only k p, λ F. let w = (join-room m o σ a b Q).1 F in not-value k w.0 (sym p ∙ w.1)))

  pub crowded-join : Ready m σ a b → (JoinFits m o σ a b → ⊥) → join_roots m o σ a b ≡ refused_with 40 σ
  crowded-join Q w = ready-join Q ∙ settled-cases (λ r. r ≡ refused_with 40 σ) σ (join_of m o σ a b)
      (λ x p. absurd (w ((join-room m o σ a b Q).0 (x, p))))
      (λ n p. ap (λ i. refused_with i σ) ((join-joined m o σ a b Q).only n p))

  -- A root is given where both are edges of a store that keeps the rules and the join gives it; the store is then the one that the join leaves.
  pub join-gives : (x : ℤ) → (join_roots m o σ a b).answer ≡ value x
      → Ready m σ a b × (((join_of m o σ a b).answer ≡ value x) × (join_roots m o σ a b ≡ made x (join_of m o σ a b).after))
  join-gives x = join-cases (λ r. r.answer ≡ value x → Given r) (λ w q. not-value 3 x q) (λ R w q. not-value 4 x q)
      (λ Q. settled-cases (λ r. r.answer ≡ value x → Given r) σ (join_of m o σ a b)
      (λ y p q. let e = value-one y x q in (Q, (p ∙ ap value e, ap (λ z. made z (join_of m o σ a b).after) e))) (λ n p q. not-value n x q))
    where
      Given : Made → Type 0
      Given r = Ready m σ a b × (((join_of m o σ a b).answer ≡ value x) × (r ≡ made x (join_of m o σ a b).after))

  -- 'At every setting the answer is that operation on the two answers'
  pub join-means : (x : ℤ) → (join_roots m o σ a b).answer ≡ value x → Result o σ a b (join_roots m o σ a b).after x
  join-means x q =
      let w = join-gives x q in
      subst (λ (τ : Store). Result o σ a b τ x) (sym (ap (λ r. r.after) w.1.1)) ((join-joined m o σ a b w.0).edged x w.1.0)

  -- so a join of roots is accepted exactly where they are edges of a store that keeps the rules and has room
  pub join-accepted : ((x : ℤ) × ((join_roots m o σ a b).answer ≡ value x)) ↔ (Ready m σ a b × JoinFits m o σ a b)
  join-accepted = (
    λ v. let w = join-gives v.0 v.1 in (w.0, (join-room m o σ a b w.0).0 (v.0, w.1.0)),
    λ w. let v = (join-room m o σ a b w.0).1 w.1 in (v.0, ap (λ r. r.answer) (ready-join w.0) ∙ ap (λ q. (settled_join_by σ q (join_of m o σ a b).after).answer) v.1),
  )

-- a store after another: it has only grown, has as many slots, and keeps the rules where the other did
pub record Extends (m : Limits) (σ τ : Store) : Type 0 where
  pub rules : Rules m σ → Rules m τ
  pub grows : Grows σ τ
  pub long : length τ.level ≡ length σ.level

extends-self : (m : Limits) (σ : Store) → Extends m σ σ
extends-self m σ = record { rules = λ R. R; grows = grows-refl σ; long = refl }

-- so is the store after a join, refused or not
pub join-extends : (m : Limits) (o : Op) (σ : Store) (a b : ℤ) → Extends m σ (join_roots m o σ a b).after
join-extends m o σ a b = join-cases m o σ a b (λ r. Extends m σ r.after) (λ w. extends-self m σ) (λ R w. extends-self m σ)
    (λ Q. settled-cases (λ r. Extends m σ r.after) σ (join_of m o σ a b)
    (λ x p. let J = join-joined m o σ a b Q in record { rules = λ R. J.rules; grows = J.grows; long = J.long }) (λ n p. extends-self m σ))

-- what the opposite of a root is: an edge of the same store, which keeps the rules
pub record Opposite (m : Limits) (σ : Store) (a x : ℤ) : Type 0 where
  pub rules : Rules m σ
  pub root : EdgeOf σ a
  pub edge : EdgeOf σ x
  -- 'a minus turns its answer over'
  pub says : (s : Setting) → answer σ s x ≡ not (answer σ s a)

module _ (m : Limits) (σ : Store) (a : ℤ) where
  pub opposite-cases : (P : Read ℤ → Type 0) → ((Rules m σ → ⊥) → P (refused 3)) → (Rules m σ → (EdgeOf σ a → ⊥) → P (refused 4))
      → (Rules m σ → EdgeOf σ a → P (value (neg_ℤ a))) → P (opposite_root m σ a)
  unfolding opposite_root
  opposite-cases P f g h = go (keeps m σ) (is_root σ a) refl refl
    where
      go : (k r : Bool) → keeps m σ ≡ k → is_root σ a ≡ r → P (cond k (cond r (value (neg_ℤ a)) (refused 4)) (refused 3))
      go false r p q = f (keeps-false m σ p)
      go true false p q = g (keeps-true m σ p) (untrue (is_root σ a) (edge-root σ a) q)
      go true true p q = h (keeps-true m σ p) (root-edge σ a q)

  -- 'another gives the opposite of one root'
  pub opposite-means : (x : ℤ) → opposite_root m σ a ≡ value x → Opposite m σ a x
  opposite-means x = opposite-cases (λ r. r ≡ value x → Opposite m σ a x) (λ w q. not-value 3 x q) (λ R w q. not-value 4 x q)
      (λ R E q. subst (Opposite m σ a) (value-one (neg_ℤ a) x q)
      (record { rules = R; root = E; edge = opposite-edge σ a E; says = λ s. answer-opposite σ s a E.some }))

  -- it is accepted exactly where it is an edge of a store that keeps the rules
  pub opposite-accepted : ((x : ℤ) × (opposite_root m σ a ≡ value x)) ↔ (Rules m σ × EdgeOf σ a)
  opposite-accepted = (
    λ v. let w = opposite-means v.0 v.1 in (w.rules, w.root),
    λ w. (neg_ℤ a, opposite-cases (λ r. r ≡ value (neg_ℤ a)) (λ u. absurd (u w.0)) (λ R u. absurd (u w.1)) (λ R E. refl)),
  )
