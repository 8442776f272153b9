-- In a store that keeps the rules, where some edge says the operation on two edges, joining them gives that edge and leaves the store as
-- it is. So a shortcut is right that names such an edge, and so is a result that was kept.
use mathlib.Core.Path.{◌≡◌, refl, sym, ap, ap₂, ◌∙◌}
use mathlib.Core.Bool.{Bool, true, false, not, cond}
use Prim.Native.Nat.{ℕ, zero, suc, ◌+◌, ◌≤◌, ◌<◌}
use native.Mathlib.Omega.{arith}
use native.Mathlib.Nat.{le_refl, le_trans}
use native.Mathlib.Decide.{ℕ_discrete, dec_lt}
use lib.Dec.{ltb}
use lib.IntN.{ℤ, pos, neg_ℤ, nat_abs, neg_ℤ-neg_ℤ}
use borrow.Author.Tests.{ltb-true, ltb-false}
use Rattle.edges.specs.Edge.{minus, turn}
use Rattle.edges.proofs.Edge.{minus-neg, plain-is, minus_is, eq_z-refl, eq_z-ne}
use Rattle.codes.specs.Limits.{Limits}
use Rattle.store.specs.Store.{Store, level_at, then_at, else_at}
use Rattle.store.specs.Meaning.{Setting, answer}
use Rattle.store.specs.Rules.{depth, Rules}
use Rattle.store.specs.Make.{made, placed_node, insert, make}
use Rattle.store.specs.Growth.{EdgeOf}
use Rattle.store.proofs.Meaning.{depth-node, depth_low}
use Rattle.store.proofs.Canonicity.{put, put-below, canonical}
use Rattle.store.proofs.Find.{find-is}
use Rattle.store.proofs.Growth.{grows-refl}
use Rattle.joined.specs.declared.Op.{Op}
use Rattle.joined.specs.Join.{apply, side, top, constantly, and_then, join_top, join_by, join_of, Ready}
use Rattle.joined.specs.Join.{SaysJoin}
use Rattle.joined.proofs.Sides.{sided, side-here, side-past, level-node, top_left, top_right}
use Rattle.joined.proofs.Joins.{last-joined, sides-ready, sides-deep}

module _ (m : Limits) (σ : Store) (R : Rules m σ) where
  -- a node that is there is found
  found-known : (n : ℕ) → 2 ≤ n → n ≤ σ.count → insert m σ (level_at σ n) (then_at σ n) (else_at σ n) ≡ made (pos n) σ
  unfolding insert
  found-known zero p h = absurd (omega arith)
  found-known (suc n) p h = ap (placed_node m σ (level_at σ (suc n)) (then_at σ (suc n)) (else_at σ (suc n)))
      (find-is σ (level_at σ (suc n)) (then_at σ (suc n)) (else_at σ (suc n)) R.nodes (suc n) p h (record { level = refl; then = refl; els = refl }))

  neg-one : (a b : ℤ) → neg_ℤ a ≡ neg_ℤ b → a ≡ b
  neg-one a b q = sym (neg_ℤ-neg_ℤ a) ∙ ap neg_ℤ q ∙ neg_ℤ-neg_ℤ b

  -- the node of an edge, made of what it holds
  node-known : (n : ℕ) → 2 ≤ n → n ≤ σ.count → (a : ℤ) (y : Bool) → minus a ≡ y → nat_abs a ≡ n
      → make m σ (level_at σ n) (cond y (neg_ℤ (then_at σ n)) (then_at σ n)) (cond y (neg_ℤ (else_at σ n)) (else_at σ n)) ≡ made a σ
  unfolding make minus
  node-known n p h a true q e =
      let F = R.nodes.fits n p h in
      let d = eq_z-ne (neg_ℤ (then_at σ n)) (neg_ℤ (else_at σ n)) (λ z. F.differ (neg-one (then_at σ n) (else_at σ n) z)) in
      let v : minus (neg_ℤ (then_at σ n)) ≡ true = minus-neg (then_at σ n) F.then_some ∙ ap not (ap minus F.positive) in
      rw (d, v, neg_ℤ-neg_ℤ (then_at σ n), neg_ℤ-neg_ℤ (else_at σ n), found-known n p h) (ap (λ (x : ℤ). made x σ) (sym (ap (λ (k : ℕ). neg_ℤ (pos k)) e) ∙ sym (minus_is a q)))
  node-known n p h a false q e =
      let F = R.nodes.fits n p h in
      let d = eq_z-ne (then_at σ n) (else_at σ n) F.differ in
      let v : minus (then_at σ n) ≡ false = ap minus F.positive in
      rw (d, v, found-known n p h) (ap (λ (x : ℤ). made x σ) (sym (ap pos e) ∙ sym (plain-is a q)))

  same_known : (l : ℕ) (y : ℤ) → make m σ l y y ≡ made y σ
  unfolding make
  same_known l y = rw (eq_z-refl y)

  -- an edge, made of its sides
  sides-known : (l : ℕ) → l < σ.levels → (x : ℤ) → EdgeOf σ x → l ≤ depth σ (nat_abs x) → make m σ l (side σ l true x) (side σ l false x) ≡ made x σ
  sides-known l L x E h = go (ℕ_discrete (depth σ (nat_abs x)) l)
    where
      go : Dec (depth σ (nat_abs x) ≡ l) → make m σ l (side σ l true x) (side σ l false x) ≡ made x σ
      go (yes q) =
          let two = level-node σ R.nodes (nat_abs x) E.some (omega arith) in
          rw (side-here σ R.nodes l L true x E q, side-here σ R.nodes l L false x E q, ← q, depth-node σ (nat_abs x) two)
          (node-known (nat_abs x) two E.there x (minus x) refl refl)
      go (no f) = let d : l < depth σ (nat_abs x) = omega arith in
          rw (side-past σ R.nodes l L true x E d, side-past σ R.nodes l L false x E d) (same_known l x)

  -- an edge that does not see the levels above l does not lie there
  lies-deep : (l : ℕ) (x : ℤ) → EdgeOf σ x → l ≤ σ.levels → ((s : Setting) (i : ℕ) → i < l → (y z : Bool) → answer σ (put s i y) x ≡ answer σ (put s i z) x)
      → l ≤ depth σ (nat_abs x)
  lies-deep l x E L f = go (dec_lt (depth σ (nat_abs x)) l)
    where
      go : Dec (depth σ (nat_abs x) < l) → l ≤ depth σ (nat_abs x)
      go (no g) = omega arith
      go (yes d) =
          let k : ℕ = depth σ (nat_abs x) in
          let K : k < σ.levels = omega arith in
          let two = level-node σ R.nodes (nat_abs x) E.some K in
          let T = sided σ R.nodes k K true x E (le_refl k) in
          let F = sided σ R.nodes k K false x E (le_refl k) in
          let same : side σ k true x ≡ side σ k false x = canonical σ R.nodes (side σ k true x) (side σ k false x) T.edge F.edge
          (λ s. T.says s ∙ f s k d true false ∙ sym (F.says s)) in
          absurd ((R.nodes.fits (nat_abs x) two E.there).differ (unsigned x (then_at σ (nat_abs x)) (else_at σ (nat_abs x)) (minus x)
          (sym (side-here σ R.nodes k K true x E refl) ∙ same ∙ side-here σ R.nodes k K false x E refl)))
        where
          unsigned : (x a b : ℤ) (y : Bool) → cond y (neg_ℤ a) a ≡ cond y (neg_ℤ b) b → a ≡ b
          unsigned x a b true q = neg-one a b q
          unsigned x a b false q = q

module _ (m : Limits) (o : Op) where
  -- the result lies no higher than the upper of the two
  pub says-deep : (σ : Store) (a b x : ℤ) → Ready m σ a b → SaysJoin o σ a b x → top σ a b ≤ depth σ (nat_abs x)
  says-deep σ a b x Q X =
      let N = Q.rules.nodes in
      lies-deep m σ Q.rules (top σ a b) x X.edge (le_trans (top_left σ a b) (depth_low σ N (nat_abs a) Q.left.there))
      (λ s i h y z. X.says (put s i y)
      ∙ ap₂ (apply o) (unseen i h a Q.left (top_left σ a b) s y z) (unseen i h b Q.right (top_right σ a b) s y z)
      ∙ sym (X.says (put s i z)))
    where
      unseen : (i : ℕ) → i < top σ a b → (e : ℤ) → EdgeOf σ e → top σ a b ≤ depth σ (nat_abs e) → (s : Setting) (y z : Bool)
          → answer σ (put s i y) e ≡ answer σ (put s i z) e
      unseen i h e E d s y z = put-below σ Q.rules.nodes s i y e E (omega arith) ∙ sym (put-below σ Q.rules.nodes s i z e E (omega arith))

  -- its sides say the operation on theirs
  says-sides : (σ : Store) (a b x : ℤ) → Ready m σ a b → SaysJoin o σ a b x → (L : top σ a b < σ.levels) → (y : Bool)
      → SaysJoin o σ (side σ (top σ a b) y a) (side σ (top σ a b) y b) (side σ (top σ a b) y x)
  says-sides σ a b x Q X L y =
      let N = Q.rules.nodes in
      let l : ℕ = top σ a b in
      let A = sided σ N l L y a Q.left (top_left σ a b) in
      let B = sided σ N l L y b Q.right (top_right σ a b) in
      let Z = sided σ N l L y x X.edge (says-deep σ a b x Q X) in
      record { edge = Z.edge; says = λ s. Z.says s ∙ X.says (put s l y) ∙ ap₂ (apply o) (sym (A.says s)) (sym (B.says s)) }

  last-known : (σ : Store) (a b x : ℤ) → Ready m σ a b → SaysJoin o σ a b x → σ.levels ≤ top σ a b → made (constantly (apply o (turn a true) (turn b true))) σ ≡ made x σ
  last-known σ a b x Q X h =
      let y : Bool = apply o (turn a true) (turn b true) in
      let D = (last-joined m o σ a b Q h).edged (constantly y) refl in
      ap (λ (z : ℤ). made z σ) (canonical σ Q.rules.nodes (constantly y) x D.edge X.edge (λ s. D.says s ∙ sym (X.says s)))

  pub by-known : (f : ℕ) (σ : Store) (a b x : ℤ) → Ready m σ a b → σ.levels ≤ top σ a b + f → SaysJoin o σ a b x → join_by f m o σ a b ≡ made x σ
  unfolding join_by
  by-known zero σ a b x Q h X = last-known σ a b x Q X (omega arith)
  by-known (suc f) σ a b x Q h X = go (ltb (top σ a b) σ.levels) refl (λ u v w P d Y. by-known f σ u v w P (omega arith) Y)
    where
      go : (z : Bool) → ltb (top σ a b) σ.levels ≡ z
          → ((u v w : ℤ) → Ready m σ u v → top σ a b < top σ u v → SaysJoin o σ u v w → join_by f m o σ u v ≡ made w σ)
          → join_top z m o (join_by f m o) σ a b ≡ made x σ
      go true q I =
          let L = ltb-true (top σ a b) σ.levels q in
          let l : ℕ = top σ a b in
          let T = I (side σ l true a) (side σ l true b) (side σ l true x) (sides-ready m o σ a b Q L true σ Q.rules (grows-refl σ))
          (sides-deep m o σ a b Q L true σ (grows-refl σ)) (says-sides σ a b x Q X L true) in
          let F = I (side σ l false a) (side σ l false b) (side σ l false x) (sides-ready m o σ a b Q L false σ Q.rules (grows-refl σ))
          (sides-deep m o σ a b Q L false σ (grows-refl σ)) (says-sides σ a b x Q X L false) in
          ap (λ r. and_then r (λ t τ. and_then (join_by f m o τ (side σ l false a) (side σ l false b)) (λ e υ. make m υ l t e))) T
          ∙ ap (λ r. and_then r (λ e υ. make m υ l (side σ l true x) e)) F
          ∙ sides-known m σ Q.rules l L x X.edge (says-deep σ a b x Q X)
      go false q I = last-known σ a b x Q X (ltb-false (top σ a b) σ.levels q)

  -- The law of joins.
  pub join-known : (σ : Store) (a b x : ℤ) → Ready m σ a b → SaysJoin o σ a b x → join_of m o σ a b ≡ made x σ
  unfolding join_of
  join-known σ a b x Q X = by-known σ.levels σ a b x Q (omega arith) X
