-- The roots of an export, as numbers of its lines: each is one that a load accepts, and returns as the edge that it was, signs included.
use mathlib.Core.Path.{◌≡◌, refl, ap₂}
use mathlib.Core.List.{List, [], ◌∷◌, map}
use Prim.Native.Nat.{ℕ, zero, suc, ◌≤◌, ◌<◌}
use native.Mathlib.Omega.{arith}
use lib.ListN.{length, get_or, replicate}
use lib.IntN.{ℤ, pos, nat_abs}
use borrow.Author.Tests.{ne_eqb}
use Rattle.codes.specs.Limits.{Limits}
use Rattle.codes.specs.Lent.{laid}
use Rattle.store.specs.Store.{Store}
use Rattle.numbering.specs.Numbering.{numbering}
use Rattle.export_nodes.specs.Lines.{renumbered}
use Rattle.imported.specs.Build.{edge_for}
use Rattle.imported.specs.Import.{root_edge}
use Rattle.export_nodes.specs.Exported.{Exported}
use Rattle.export_nodes.proofs.Renumbered.{renumbered-abs, root-numbered}
use Rattle.reading_nodes.proofs.Parts.{parts-end}
use Rattle.reading_nodes.proofs.NumbersBack.{edge-back}

-- entries that return, over the front of zeros
laid-back : (g h : ℤ → ℤ) → g (pos 0) ≡ pos 0 → (es : List ℤ) → ((i : ℕ) → i < length es → g (h (get_or es i (pos 0))) ≡ get_or es i (pos 0))
    → (k : ℕ) → map g (laid (map h es) (replicate k (pos 0))) ≡ laid es (replicate k (pos 0))
unfolding laid
laid-back g h z [] back zero = refl
laid-back g h z [] back (suc k) = ap₂ (λ a l. a ∷ l) z (laid-back g h z [] back k)
laid-back g h z (e ∷ es) back zero = refl
laid-back g h z (e ∷ es) back (suc k) =
    ap₂ (λ a l. a ∷ l) (back 0 (omega arith)) (laid-back g h z es (λ i p. back (suc i) (omega arith)) k)

module _ {m : Limits} {σ : Store} {roots : List ℤ} (E : Exported m σ roots) where
  abbrev ns : List ℕ
  ns = numbering σ roots

  module _ (i : ℕ) (h : i < length roots) where
    -- a root is the number of a line
    pub root_some : 1 ≤ nat_abs (renumbered ns (get_or roots i (pos 0)))
    root_some = rw (renumbered-abs ns (get_or roots i (pos 0))) (root-numbered E i h).some

    pub root_low : nat_abs (renumbered ns (get_or roots i (pos 0))) ≤ length ns
    root_low = rw (renumbered-abs ns (get_or roots i (pos 0))) (root-numbered E i h).early

    -- the edge of that line is the root
    pub root-back : edge_for (map pos ns) (renumbered ns (get_or roots i (pos 0))) ≡ get_or roots i (pos 0)
    root-back = edge-back (parts-end ns) (get_or roots i (pos 0)) (root-numbered E i h)

  -- The roots in a lent list, in place of their numbers; its unused entries are 0.
  pub roots-back : (k : ℕ) → map (root_edge (map pos ns)) (laid (map (renumbered ns) roots) (replicate k (pos 0))) ≡ laid roots (replicate k (pos 0))
  roots-back = laid-back (root_edge (map pos ns)) (renumbered ns) refl roots each
    where
      each : (i : ℕ) → i < length roots → root_edge (map pos ns) (renumbered ns (get_or roots i (pos 0))) ≡ get_or roots i (pos 0)
      each i h = rw (ne_eqb (nat_abs (renumbered ns (get_or roots i (pos 0)))) 0 (λ e. omega (arith, root_some i h))) (root-back i h)
