-- Laws of a line at a support position, over children without a fault.
use mathlib.Core.Path.{◌≡◌, refl, sym, ◌∙◌}
use mathlib.Core.Bool.{Bool, true, false, cond}
use mathlib.Core.List.{List}
use Prim.Native.Nat.{ℕ, ◌^◌, ◌≤◌, ◌<◌}
use native.Mathlib.Omega.{arith}
use lib.ListN.{length, get_or}
use lib.IntN.{ℤ, nat_abs}
use lib.Dec.{leb}
use borrow.Author.Tests.{lt-ltb, lt-leb, leb-false}
use mir.Syntax.{Width}
use mir.Val.{SFits, hbits, to_z, of_z}
use mir.ValLaws.{to_z-of_z}
use Rattle.codes.specs.Limits.{node_limit}
use Rattle.codes.specs.Answer.{value}
use Rattle.file_roots.specs.Roots.{edge_of}
use Rattle.file_roots.proofs.RootEdges.{edge_same, edge-read}
use Rattle.node_lines.specs.Line.{inner, deeper, child_fault}
use Rattle.import_ascii.specs.Text.{variable}

-- a child of magnitude m of the line n, at a level, is below its line and deeper
pub fault-none : (levels seats : List ℕ) (n l : ℕ) (c : ℤ) {m : ℕ} → m ≡ nat_abs c → m < n → {d : Bool} → d ≡ deeper levels seats l m → d ≡ true
    → 0 ≡ child_fault levels seats n l c
unfolding child_fault
fault-none levels seats n l c {m} e h f g = rw (← e, lt-leb n m h, ← f, g)

-- a child without a fault is below its line
pub child-below : (levels seats : List ℕ) (n l : ℕ) (c : ℤ) → child_fault levels seats n l c ≡ 0 → nat_abs c < n
unfolding child_fault
child-below levels seats n l c h = go (leb n (nat_abs c)) refl h
  where
    go : (b : Bool) → leb n (nat_abs c) ≡ b → ◌≡◌ {A = ℕ} (cond b 35 (cond (deeper levels seats l (nat_abs c)) 0 36)) 0
        → nat_abs c < n
    go true e k = absurd (omega arith)
    go false e k = leb-false n (nat_abs c) e

-- a child within the nodes that a file may have is itself as an edge, as the code reads it
pub edge_kept : (w v : Width) (r : ℤ) → SFits w r → node_limit < 2 ^ hbits v
    → {e : ℤ} → e ≡ edge_of (to_z w (of_z w r)) → nat_abs r ≤ node_limit → to_z v (of_z v e) ≡ r
edge_kept w v r f k p h = edge-read w v r f k p ∙ edge_same r h

-- The line n at the position p, over the children t and e.
module _ (levels seats : List ℕ) (n p : ℕ) (t e : ℤ) (h : p < length levels) where
  -- neither has a fault
  pub position-inner : {f : ℕ} → f ≡ child_fault levels seats n (get_or levels p 0) t → f ≡ 0
      → {g : ℕ} → g ≡ child_fault levels seats n (get_or levels p 0) e → g ≡ 0 → value (inner p t e) ≡ variable levels seats n t e (value p)
  position-inner k z m y = rw (lt-ltb p (length levels) h, ← k, ← m, z, y)

  -- The same, as the code reads the level and the children.
  module _ (w v : Width) (k : node_limit < 2 ^ hbits v) {l : ℕ} (m : n ≤ node_limit) (q : l ≡ get_or levels p 0) where
    -- either child is itself as an edge
    child-kept : (c : ℤ) → SFits w c → child_fault levels seats n l c ≡ 0 → {x : ℤ} → x ≡ edge_of (to_z w (of_z w c)) → to_z v (of_z v x) ≡ c
    child-kept c f z a = let b = child-below levels seats n l c z in edge_kept w v c f k a (omega (arith, b, m))

    pub position-read : SFits w t → SFits w e
        → 0 ≡ child_fault levels seats n l (to_z w (of_z w t)) → 0 ≡ child_fault levels seats n l (to_z w (of_z w e))
        → {x y : ℤ} → x ≡ edge_of (to_z w (of_z w t)) → y ≡ edge_of (to_z w (of_z w e))
        → value (inner p (to_z v (of_z v x)) (to_z v (of_z v y))) ≡ variable levels seats n t e (value p)
    position-read f g z y a b =
        let i : 0 ≡ child_fault levels seats n l t = rw (to_z-of_z w t f) at z in
        let j : 0 ≡ child_fault levels seats n l e = rw (to_z-of_z w e g) at y in
        rw (child-kept t f (sym i) a, child-kept e g (sym j) b) (position-inner (rw q at i) refl (rw q at j) refl)
