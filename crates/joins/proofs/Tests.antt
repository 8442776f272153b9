-- The refusals and answers of a join and of the opposite, by the tests one after the other; and the calls on edges that are read back from their bits.
use mathlib.Core.Path.{◌≡◌, sym, ap, ap₂, ◌∙◌}
use mathlib.Core.Bool.{Bool, true, false, not}
use Prim.Native.Nat.{ℕ}
use native.Mathlib.Omega.{arith}
use borrow.Author.Tests.{not-true, not-false}
use lib.IntN.{ℤ, neg_ℤ}
use mir.Val.{SFits, to_z, of_z}
use mir.ValLaws.{to_z-of_z}
use Rattle.edges.specs.Width.{edge_width}
use Rattle.edges.specs.Edge.{IsEdge}
use Rattle.edges.proofs.Edge.{edge-neg}
use Rattle.edges.proofs.Signed.{edge-back}
use Rattle.codes.specs.Answer.{value, refused}
use Rattle.codes.specs.Limits.{limits}
use Rattle.store.specs.Store.{Store}
use Rattle.store.specs.Keeps.{keeps, keeps-true}
use Rattle.store.specs.Growth.{is_root}
use Rattle.store.proofs.Growth.{root-edge}
use Rattle.joined.specs.declared.Op.{Op}
use Rattle.joined.specs.Roots.{join_roots, opposite_root}
use Rattle.joins.specs.Promises.{join_fault}

-- an edge as it is read back from its bits
abbrev pub back : ℤ → ℤ
back e = to_z edge_width (of_z edge_width e)

-- a test for a root
pub tested : (σ : Store) (e : ℤ) → SFits edge_width e → {r : Bool} → r ≡ is_root σ (back e) → r ≡ is_root σ e
tested σ e f q = q ∙ ap (is_root σ) (to_z-of_z edge_width e f)

module _ (σ : Store) (a b : ℤ) (f : SFits edge_width a) (g : SFits edge_width b) {kept : Bool} (k : kept ≡ keeps limits σ) where
  pub fault-broken : not kept ≡ true → 3 ≡ join_fault limits σ a b
  fault-broken h = rw (sym k ∙ not-true kept h)

  module _ (h : not kept ≡ false) {left : Bool} (l : left ≡ is_root σ (back a)) where
    keeps-now : keeps limits σ ≡ true
    keeps-now = sym k ∙ not-false kept h

    pub fault-left : not left ≡ true → 4 ≡ join_fault limits σ a b
    fault-left i = rw (keeps-now, sym (tested σ a f l) ∙ not-true left i)

    module _ (i : not left ≡ false) {right : Bool} (r : right ≡ is_root σ (back b)) where
      pub fault-right : not right ≡ true → 4 ≡ join_fault limits σ a b
      fault-right j = rw (keeps-now, sym (tested σ a f l) ∙ not-false left i, sym (tested σ b g r) ∙ not-true right j)

      pub fault-none : not right ≡ false → 0 ≡ join_fault limits σ a b
      fault-none j = rw (keeps-now, sym (tested σ a f l) ∙ not-false left i, sym (tested σ b g r) ∙ not-false right j)

module _ (σ : Store) (a : ℤ) (f : SFits edge_width a) {kept : Bool} (k : kept ≡ keeps limits σ) (h : not kept ≡ false)
    {root : Bool} (r : root ≡ is_root σ (back a)) (i : not root ≡ false) where
  root-width : IsEdge a
  root-width =
      let E = root-edge σ a (sym (tested σ a f r) ∙ not-false root i) in
      let R = keeps-true limits σ (sym k ∙ not-false kept h) in
      omega (arith, E.there, R.sizes.count_limit)

  pub turned-over : (x : ℤ) → x ≡ neg_ℤ (back a) → value (back x) ≡ opposite_root limits σ a
  unfolding opposite_root
  turned-over x q =
      let e : x ≡ neg_ℤ a = q ∙ ap neg_ℤ (edge-back edge_width a root-width) in
      rw (sym k ∙ not-false kept h, sym (tested σ a f r) ∙ not-false root i) (ap value (ap back e ∙ edge-back edge_width (neg_ℤ a) (edge-neg a root-width)))

pub joins-read : (o : Op) (σ : Store) (a b : ℤ) → SFits edge_width a → SFits edge_width b → join_roots limits o σ (back a) (back b) ≡ join_roots limits o σ a b
joins-read o σ a b f g = ap₂ (λ (x y : ℤ). join_roots limits o σ x y) (to_z-of_z edge_width a f) (to_z-of_z edge_width b g)

pub opposite-read : (σ : Store) (a : ℤ) → SFits edge_width a → opposite_root limits σ (back a) ≡ opposite_root limits σ a
opposite-read σ a f = ap (opposite_root limits σ) (to_z-of_z edge_width a f)
