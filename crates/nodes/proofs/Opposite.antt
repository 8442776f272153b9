-- The minus of a then, moved to both the else and the result: what the code reads back of an edge, its opposite under a minus, and how
-- `make` follows from `insert`.
use mathlib.Core.Path.{◌≡◌, refl, sym, ap, ◌∙◌}
use mathlib.Core.Bool.{Bool, true, false, cond}
use mathlib.Core.List.{List}
use Prim.Native.Nat.{ℕ, ◌+◌, zero, suc}
use native.Mathlib.Omega.{arith}
use lib.IntN.{ℤ, pos, neg_ℤ}
use Rattle.edges.specs.Width.{edge_width}
use mir.Val.{to_z, of_z}
use Rattle.codes.specs.Answer.{Read, value, refused}
use Rattle.edges.specs.Edge.{IsEdge, minus, eq_z}
use Rattle.edges.proofs.Edge.{abs_neg}
use Rattle.edges.proofs.Signed.{edge-back}
use Rattle.std.specs.Prelude.{Option, Some, None}
use Rattle.insertion.specs.Kinds.{of_making}
use Rattle.insertion.specs.Known.{KnownNodes}
use Rattle.insertion.specs.Promises.{InsertPromise}
use Rattle.nodes.specs.Promises.{MakePromise}
use Rattle.store.specs.Store.{Store}
use Rattle.codes.specs.Limits.{Limits, limits}
use Rattle.store.specs.Rules.{Sizes}
use Rattle.store.specs.Make.{room_for, find, added, placed_node, insert, negated, turned, make, made, full}
use Rattle.slots.proofs.Placed.{found-edge, new-edge}

-- an edge, or its opposite under a minus
module _ (x : Bool) (e : ℤ) (h : IsEdge e) where
  turned-edge : (y : Bool) → IsEdge (cond y (neg_ℤ e) e)
  turned-edge true = rw (abs_neg e) h
  turned-edge false = h

  pub opposite : (a : ℤ) → x ≡ true → a ≡ neg_ℤ (to_z edge_width (of_z edge_width e)) → to_z edge_width (of_z edge_width a) ≡ cond x (neg_ℤ e) e
  opposite a p q = rw (p, q, edge-back edge_width e h) (edge-back edge_width (neg_ℤ e) (turned-edge true))

  pub itself : x ≡ false → to_z edge_width (of_z edge_width e) ≡ cond x (neg_ℤ e) e
  itself p = rw p (edge-back edge_width e h)

  pub turned-back : (a : ℤ) → a ≡ cond x (neg_ℤ (to_z edge_width (of_z edge_width e))) (to_z edge_width (of_z edge_width e)) → to_z edge_width (of_z edge_width a) ≡ cond x (neg_ℤ e) e
  turned-back a q = rw (q, edge-back edge_width e h) (edge-back edge_width (cond x (neg_ℤ e) e) (turned-edge x))

-- an edge that is read back
pub edge-again : (a : ℤ) → IsEdge a → IsEdge (to_z edge_width (of_z edge_width a))
edge-again a h = rw (edge-back edge_width a h) h

-- the same of an answer
negated-value : (y : Bool) (a : ℤ) → value (cond y (neg_ℤ a) a) ≡ cond y (negated (value a)) (value a)
negated-value true a = refl
negated-value false a = refl

-- an edge that was made, or its opposite; or there was no room for one
module _ (y : Bool) where
  pub edge-turned : (a b : ℤ) → IsEdge a → b ≡ cond y (neg_ℤ (to_z edge_width (of_z edge_width a))) (to_z edge_width (of_z edge_width a))
      → of_making (Some (to_z edge_width (of_z edge_width b))) ≡ cond y (negated (of_making (Some a))) (of_making (Some a))
  edge-turned a b h p = ap value (turned-back y a h b p) ∙ negated-value y a

  pub none-turned : of_making None ≡ cond y (negated (of_making None)) (of_making None)
  none-turned = go y
    where
      go : (z : Bool) → refused 40 ≡ cond z (negated (refused 40)) (refused 40)
      go true = refl
      go false = refl

-- what `insert` gives has an opposite
Turnable : Read ℤ → Type 0
Turnable (value a) = IsEdge a
Turnable (refused n) = Unit

insert-turnable : (σ : Store) (l : ℕ) (t e : ℤ) → Sizes limits σ → Turnable (insert limits σ l t e).answer
unfolding insert Turnable
insert-turnable σ l t e z = go (find σ l t e) refl
  where
    new : (b : Bool) → b ≡ room_for limits σ → Turnable (cond b (made (pos (σ.count + 1)) (added σ l t e)) (full σ)).answer
    new true p = new-edge σ true p refl
    new false p = tt

    go : (n : ℕ) → n ≡ find σ l t e → Turnable (placed_node limits σ l t e n).answer
    go zero q = new (room_for limits σ) refl
    go (suc n) q = found-edge σ l t e (suc n) z q (λ f. omega arith)

pub insert-edge : (σ : Store) (l : ℕ) (t e : ℤ) → Sizes limits σ → (a : ℤ) → value a ≡ (insert limits σ l t e).answer → IsEdge a
unfolding Turnable
insert-edge σ l t e z a q = rw (← q) at (insert-turnable σ l t e z)

-- the ways of `make`
module _ (m : Limits) (σ : Store) (l : ℕ) (t e : ℤ) (x : Bool) (p : x ≡ eq_z t e) where
  pub make-child : x ≡ true → (a : Read ℤ) → a ≡ value t → (a ≡ (make m σ l t e).answer) × (σ ≡ (make m σ l t e).after)
  unfolding make
  make-child q a h = (h ∙ rw (← p, q), rw (← p, q))

  module _ (q : x ≡ false) (y : Bool) (g : y ≡ minus t) (a b : ℤ) (c : a ≡ cond y (neg_ℤ t) t) (d : b ≡ cond y (neg_ℤ e) e) where
    make-by : (z : Bool) → z ≡ y → make m σ l t e ≡ cond z (turned (insert m σ l a b)) (insert m σ l a b)
    unfolding make
    make-by true f = rw (← p, q, ← g, c, d, ← f)
    make-by false f = rw (← p, q, ← g, c, d, ← f)

    pub make-answer : (r v : Read ℤ) → r ≡ (insert m σ l a b).answer → v ≡ cond y (negated r) r → v ≡ (make m σ l t e).answer
    make-answer r v k h = go y refl h
      where
        go : (z : Bool) → z ≡ y → v ≡ cond z (negated r) r → v ≡ (make m σ l t e).answer
        go true f h = h ∙ ap negated k ∙ ap (λ w. w.answer) (sym (make-by true f))
        go false f h = h ∙ k ∙ ap (λ w. w.answer) (sym (make-by false f))

    pub make-after : (insert m σ l a b).after ≡ (make m σ l t e).after
    make-after = go y refl
      where
        go : (z : Bool) → z ≡ y → (insert m σ l a b).after ≡ (make m σ l t e).after
        go true f = ap (λ w. w.after) (sym (make-by true f))
        go false f = ap (λ w. w.after) (sym (make-by false f))

-- the same, as the code promises it: of the limits of this width, and with an index
module _ (σ : Store) (l : ℕ) (t e : ℤ) (ix : List ℕ) (width : ℕ) (x : Bool) (p : x ≡ eq_z t e) where
  pub made-child : x ≡ true → KnownNodes width σ ix → (a : ℤ) → a ≡ t → MakePromise σ σ ix width l t e (Some a)
  made-child q K a h = let r = make-child limits σ l t e x p q (value a) (ap value h) in record { answer = r.0; store = r.1; known = K }

  module _ (q : x ≡ false) (y : Bool) (g : y ≡ minus t) (a b : ℤ) (c : a ≡ cond y (neg_ℤ t) t) (d : b ≡ cond y (neg_ℤ e) e) where
    pub made-turned : (τ : Store) → (r v : Option ℤ) → InsertPromise σ τ ix width l a b r
        → of_making v ≡ cond y (negated (of_making r)) (of_making r) → MakePromise σ τ ix width l t e v
    made-turned τ r v i h = record {
      answer = make-answer limits σ l t e x p q y g a b c d (of_making r) (of_making v) i.answer h;
      store = i.store ∙ make-after limits σ l t e x p q y g a b c d;
      known = i.known;
    }
