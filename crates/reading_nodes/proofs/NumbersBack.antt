-- From the numbers of lines back to nodes: the node of the next line, and edges to those before.
use mathlib.Core.Path.{◌≡◌, refl}
use mathlib.Core.List.{List, ◌∷◌, map}
use Prim.Native.Nat.{ℕ, zero, suc, ◌≤◌}
use native.Mathlib.Omega.{arith}
use lib.ListN.{length}
use lib.IntN.{ℤ, pos, negsuc, nat_abs}
use Rattle.codes.specs.Limits.{Limits}
use Rattle.edges.specs.Edge.{minus}
use Rattle.read_edges.specs.Edges.{signed}
use Rattle.store.specs.Store.{Store}
use Rattle.seats.specs.Seats.{seat_of}
use Rattle.numbering.specs.Numbering.{numbering}
use Rattle.export_nodes.specs.Exported.{Exported}
use Rattle.export_nodes.specs.Lines.{renumbered}
use Rattle.export_nodes.proofs.Renumbered.{Numbered, renumbered-abs, NodeAt, node_at}
use Rattle.imported.specs.Build.{turned_over, edge_for}
use Rattle.reading_nodes.proofs.Parts.{Parts, parts_low, parts-here, seat-early}

-- the node of the next line
pub next-node : {m : Limits} {σ : Store} {roots : List ℤ} {before rest : List ℕ} {n : ℕ} → Exported m σ roots
    → Parts (numbering σ roots) before (n ∷ rest) → NodeAt σ (numbering σ roots) (length before) n
next-node {before = before} {n = n} E p = node_at E (length before) n (parts_low p) (parts-here p)

-- an edge by its node, turned over under its sign
turned-back : (c : ℤ) (s : ℕ) → 1 ≤ s → turned_over (signed (minus c) s) (pos (nat_abs c)) ≡ c
unfolding minus
turned-back (pos n) s h = refl
turned-back (negsuc n) zero h = absurd (omega arith)
turned-back (negsuc n) (suc s) h = refl

-- An edge returns from the number of its line, by the nodes of the lines before.
pub edge-back : {ns before rest : List ℕ} → Parts ns before rest → (c : ℤ) → Numbered ns (length before) c
    → edge_for (map pos before) (renumbered ns c) ≡ c
unfolding edge_for renumbered
edge-back {ns} p c n =
    rw (renumbered-abs ns c, seat-early (nat_abs c) ns n.some pos (pos 1) p n.early) (turned-back c (seat_of (nat_abs c) ns) n.some)
