-- The levels of nodes and the sides of edges in the form in which the code reads them from a store's lists.
use mathlib.Core.Path.{◌≡◌, refl, sym, ap, ◌∙◌}
use mathlib.Core.Bool.{Bool, true, false, cond}
use mathlib.Core.List.{List}
use Prim.Native.Nat.{ℕ, ◌-◌, ◌≤◌, min}
use native.Mathlib.Omega.{arith}
use borrow.Author.Tests.{eqb-true, eqb-false, ltb-true, ltb-false, eq-eqb, ne_eqb, le-leb, lt-leb}
use lib.Dec.{eqb, leb, ltb}
use lib.ListN.{get_or}
use lib.IntN.{ℤ, pos, nat_abs}
use mir.Val.{SFits}
use mir.ValLaws.{to_z-of_z}
use Rattle.edges.specs.Edge.{IsEdge}
use Rattle.edges.specs.Width.{edge_width}
use Rattle.edges.proofs.Signed.{edge-fits, abs-back}
use Rattle.store.specs.Store.{Store, level_at}
use Rattle.store.specs.Rules.{depth}
use Rattle.store.proofs.Meaning.{depth-node}
use Rattle.joined.specs.Join.{through, child, side, top}
use Rattle.join_steps.specs.declared.Sides.{Sides}
use Rattle.join_steps.specs.Slots.{BothSides, SplitAsks, SplitPromise}
use Rattle.join_steps.proofs.ReadBack.{read_back, through-kept}

-- A side is a number of the width, so it is read as it was given.
picked : (y : Bool) (t a : ℤ) → SFits edge_width t → SFits edge_width a → SFits edge_width (cond y t a)
picked true t a T A = T
picked false t a T A = A

module _ (l : List ℤ) (here : Bool) (a : ℤ) (f : SFits edge_width a) (L : IsEdge (get_or l (nat_abs a - 1) (pos 0))) where
  abbrev seen : ℤ
  seen = through a (get_or l (nat_abs a - 1) (pos 0))

  seen-edge : IsEdge seen
  seen-edge = through-kept a (get_or l (nat_abs a - 1) (pos 0)) L

  side-back : (v : ℤ) → v ≡ cond here seen a → read_back v ≡ cond here seen a
  side-back v q = rw q (to_z-of_z edge_width (cond here seen a) (picked here seen a (edge-fits edge_width seen seen-edge) f))

-- the smaller of two levels
smaller : (x y : ℕ) → min x y ≡ cond (ltb x y) x y
smaller x y = go (ltb x y) refl
  where
    go : (z : Bool) → ltb x y ≡ z → min x y ≡ cond z x y
    go true h = omega (arith, ltb-true x y h)
    go false h = omega (arith, ltb-false x y h)

-- Which of two edges lies at the smaller of their levels.
here-left : (x y : ℕ) → eqb x (cond (ltb x y) x y) ≡ leb x y
here-left x y = go (ltb x y) refl
  where
    level : (z : Bool) → eqb x y ≡ z → y ≤ x → z ≡ leb x y
    level true e h = sym (le-leb x y (omega (arith, eqb-true x y e)))
    level false e h = sym (lt-leb x y (omega (arith, eqb-false x y e, h)))

    go : (z : Bool) → ltb x y ≡ z → eqb x (cond z x y) ≡ leb x y
    go true h = eq-eqb x x refl ∙ sym (le-leb x y (omega (arith, ltb-true x y h)))
    go false h = level (eqb x y) refl (ltb-false x y h)

here-right : (x y : ℕ) → eqb y (cond (ltb x y) x y) ≡ leb y x
here-right x y = go (ltb x y) refl
  where
    go : (z : Bool) → ltb x y ≡ z → eqb y (cond z x y) ≡ leb y x
    go true h = ne_eqb y x (let p = ltb-true x y h in λ e. omega (arith, p, e)) ∙ sym (lt-leb y x (omega (arith, ltb-true x y h)))
    go false h = eq-eqb y y refl ∙ sym (le-leb y x (omega (arith, ltb-false x y h)))

-- The level of two edges and both sides of each, from what the code read.
module _ (σ : Store) (a b : ℤ) (f : SFits edge_width a) (g : SFits edge_width b) (Q : SplitAsks σ a b)
    (x y : ℕ) (X : x ≡ level_at σ (nat_abs (read_back a))) (Y : y ≡ level_at σ (nat_abs (read_back b))) where
  left-lies : depth σ (nat_abs a) ≡ x
  left-lies = depth-node σ (nat_abs a) Q.left_deep ∙ sym (X ∙ ap (level_at σ) (abs-back edge_width a f))

  right-lies : depth σ (nat_abs b) ≡ y
  right-lies = depth-node σ (nat_abs b) Q.right_deep ∙ sym (Y ∙ ap (level_at σ) (abs-back edge_width b g))

  pub top-is : top σ a b ≡ cond (ltb x y) x y
  unfolding top
  top-is = rw (left-lies, right-lies)

  left-side : (w : Bool) → side σ (top σ a b) w a ≡ cond (leb x y) (through a (child σ w (nat_abs a))) a
  unfolding side
  left-side w = rw (left-lies, top-is, here-left x y)

  right_side : (w : Bool) → side σ (top σ a b) w b ≡ cond (leb y x) (through b (child σ w (nat_abs b))) b
  unfolding side
  right_side w = rw (right-lies, top-is, here-right x y)

  module _ (p q : Sides) (P : BothSides σ (leb x y) (read_back a) p) (R : BothSides σ (leb y x) (read_back b) q) where
    left-read : BothSides σ (leb x y) a p
    left-read = rw (to_z-of_z edge_width a f) at P

    right-read : BothSides σ (leb y x) b q
    right-read = rw (to_z-of_z edge_width b g) at R

    pub split-read : (l : ℕ) → l ≡ min x y
        → SplitPromise σ a b (record {
          level = l;
          then = record { left = read_back p.then; right = read_back q.then };
          els = record { left = read_back p.els; right = read_back q.els };
        })
    split-read l L = record {
      level = L ∙ smaller x y ∙ sym top-is;
      then = record {
        left = side-back σ.then (leb x y) a f Q.left.then_edge p.then left-read.yes ∙ sym (left-side true);
        right = side-back σ.then (leb y x) b g Q.right.then_edge q.then right-read.yes ∙ sym (right_side true);
      };
      els = record {
        left = side-back σ.els (leb x y) a f Q.left.else_edge p.els left-read.no ∙ sym (left-side false);
        right = side-back σ.els (leb y x) b g Q.right.else_edge q.els right-read.no ∙ sym (right_side false);
      };
    }
