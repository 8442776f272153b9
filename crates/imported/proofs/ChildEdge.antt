-- The edge of a root or child, as the code finds it: the code reads an edge e as `to_z edge_width (of_z edge_width e)`.
use mathlib.Core.Path.{◌≡◌, refl, sym, ap, ◌∙◌}
use mathlib.Core.Bool.{Bool, true, false, true≢false}
use mathlib.Core.List.{List, [], ◌∷◌}
use Prim.Native.Nat.{ℕ, zero, suc, ◌-◌, ◌<◌}
use native.Mathlib.Omega.{arith}
use lib.IntN.{ℤ, pos, negsuc, neg_ℤ, nat_abs}
use lib.ListN.{length, get_or}
use Rattle.edges.specs.Width.{edge_width}
use mir.Val.{SFits, to_z, of_z}
use mir.ValLaws.{to_z-of_z}
use Rattle.edges.specs.Edge.{IsEdge, minus}
use Rattle.edges.proofs.Edge.{edge-neg}
use Rattle.edges.proofs.Signed.{abs-back, edge-back}
use Rattle.imported.specs.Build.{turned_over, edge_for, AllEdges}

-- inside a list an entry is the same with any default
pub within : {A : Type 0} (l : List A) (i : ℕ) (d z : A) → i < length l → get_or l i d ≡ get_or l i z
within [] i d z h = absurd (omega arith)
within (x ∷ l) zero d z h = refl
within (x ∷ l) (suc i) d z h = within l i d z (omega arith)

-- an edge by the sign of its root or child
turned_plain : (c e : ℤ) → minus c ≡ false → e ≡ turned_over c e
unfolding minus
turned_plain (pos n) e h = refl
turned_plain (negsuc n) e h = absurd (true≢false h)

turned-minus : (c e : ℤ) → minus c ≡ true → neg_ℤ e ≡ turned_over c e
unfolding minus
turned-minus (pos n) e h = absurd (true≢false (sym h))
turned-minus (negsuc n) e h = refl

-- the edge of a root or child is one
turned-edge : (c e : ℤ) → IsEdge e → IsEdge (turned_over c e)
turned-edge (pos n) e h = h
turned-edge (negsuc n) e h = edge-neg e h

pub edge-for-edge : (edges : List ℤ) (c : ℤ) → AllEdges edges → IsEdge (edge_for edges c)
unfolding edge_for
edge-for-edge edges c E = turned-edge c _ (E (nat_abs c - 1))

-- The number m of a root or child c, the edge e of its line, and its sign b, as the code reads them.
module _ (edges : List ℤ) (c : ℤ) (f : SFits edge_width c) (E : AllEdges edges)
    {m : ℕ} (p : m ≡ nat_abs (to_z edge_width (of_z edge_width c))) {e : ℤ} (x : e ≡ get_or edges (m - 1) (pos 1))
    {b : Bool} (s : b ≡ minus (to_z edge_width (of_z edge_width c))) where
  -- the edge is read as it is
  edge-is : to_z edge_width (of_z edge_width e) ≡ get_or edges (nat_abs c - 1) (pos 1)
  edge-is = let q : m ≡ nat_abs c = p ∙ abs-back edge_width c f in rw (x, q) (edge-back edge_width (get_or edges (nat_abs c - 1) (pos 1)) (E (nat_abs c - 1)))

  -- and so is the sign
  sign-is : b ≡ minus c
  sign-is = s ∙ ap minus (to_z-of_z edge_width c f)

  -- its opposite stands for a root or child with a minus
  pub edge-minus : b ≡ true → {r : ℤ} → r ≡ neg_ℤ (to_z edge_width (of_z edge_width e)) → to_z edge_width (of_z edge_width r) ≡ edge_for edges c
  unfolding edge_for
  edge-minus k q =
      let a : ℤ = get_or edges (nat_abs c - 1) (pos 1) in
      rw (q, edge-is) (edge-back edge_width (neg_ℤ a) (edge-neg a (E (nat_abs c - 1))) ∙ turned-minus c a (sym sign-is ∙ k))

  -- with no minus it stands as it is
  pub edge_plain : b ≡ false → to_z edge_width (of_z edge_width e) ≡ edge_for edges c
  unfolding edge_for
  edge_plain k = edge-is ∙ turned_plain c _ (sym sign-is ∙ k)
