-- The lines of an export, made into the store that they came from: each finds its own node, so none is made. Document 01, 'Store and
-- meaning': 'no two nodes alike', and 'A node not found takes the next number'.
use mathlib.Core.Path.{◌≡◌, refl, sym, ap, ◌∙◌}
use mathlib.Core.List.{List, [], ◌∷◌, ◌++◌, map, append-nil, map-append}
use Prim.Native.Nat.{ℕ, zero, suc, ◌≤◌}
use native.Mathlib.Omega.{arith}
use lib.ListN.{length}
use lib.IntN.{ℤ, pos}
use Rattle.codes.specs.Answer.{value}
use Rattle.edges.specs.Edge.{minus}
use Rattle.edges.proofs.Edge.{eq_z-ne}
use Rattle.store.specs.Store.{Store, level_at, then_at, else_at}
use Rattle.codes.specs.Limits.{Limits}
use Rattle.store.specs.Rules.{Nodes}
use Rattle.store.specs.Make.{made, placed_node, insert, make}
use Rattle.store.proofs.Find.{find-is}
use Rattle.numbering.specs.Numbering.{numbering}
use Rattle.numbering.specs.Support.{support_of}
use Rattle.export_nodes.specs.Lines.{line_of_node, lines_for}
use Rattle.imported.specs.Build.{add_line, built, build_on, build}
use Rattle.export_nodes.specs.Exported.{Exported}
use Rattle.export_nodes.proofs.Renumbered.{InnerAt, NodeAt, terminal_at, inner_at}
use Rattle.export_nodes.proofs.Support.{level-back}
use Rattle.reading_nodes.proofs.Parts.{Parts, parts-start, parts_more}
use Rattle.reading_nodes.proofs.NumbersBack.{edge-back, next-node}
use Rattle.reading_nodes.proofs.LinesJudged.{line_of, line-inner}

-- a node that is found
placed-found : (m : Limits) (σ : Store) (l : ℕ) (t e : ℤ) (n : ℕ) → 1 ≤ n → placed_node m σ l t e n ≡ made (pos n) σ
placed-found m σ l t e zero h = absurd (omega arith)
placed-found m σ l t e (suc n) h = refl

-- what a node of the store holds makes that node
own-made : {σ : Store} {ns : List ℕ} {i n : ℕ} (m : Limits) → Nodes σ → InnerAt σ ns i n
    → make m σ (level_at σ n) (then_at σ n) (else_at σ n) ≡ made (pos n) σ
unfolding make insert minus
own-made {σ} {ns} {i} {n} m N I =
    let F = I.fits in
    rw (
      eq_z-ne (then_at σ n) (else_at σ n) F.differ,
      ap minus F.positive,
      find-is σ (level_at σ n) (then_at σ n) (else_at σ n) N n I.node I.there (record { level = refl; then = refl; els = refl }),
    )
    (placed-found m σ (level_at σ n) (then_at σ n) (else_at σ n) n (omega (arith, I.node)))

-- and so does its line, after the lines before it
line_made : {σ : Store} {ns before rest : List ℕ} {n : ℕ} (m : Limits) → Nodes σ → Parts ns before rest → NodeAt σ ns (length before) n
    → add_line m (support_of σ ns) σ (map pos before) (line_of σ ns n) ≡ made (pos n) σ
unfolding add_line line_of_node
line_made m N p terminal_at = refl
line_made {σ} {ns} {n = n} m N p (inner_at I) =
    rw (line-inner σ ns n I.node, add_line, level-back I, edge-back p (then_at σ n) I.then, edge-back p (else_at σ n) I.els) (own-made m N I)

module _ {m : Limits} {σ : Store} {roots : List ℤ} (E : Exported m σ roots) where
  abbrev ns : List ℕ
  ns = numbering σ roots

  -- the lines from the next on make no node
  rest-built : (before rest : List ℕ) → Parts ns before rest
      → build_on m (support_of σ ns) σ (map pos before) (map (line_of σ ns) rest) ≡ built (value (map pos ns)) σ
  unfolding build_on
  rest-built before [] p = ap (λ l. built (value (map pos l)) σ) (sym (append-nil before) ∙ p.whole)
  rest-built before (n ∷ rest) p =
      rw (line_made m E.rules.nodes p (next-node E p)) (rw map-append at (rest-built (before ++ (n ∷ [])) rest (parts_more p)))

  -- The edges of the lines are their nodes, and the store is the one before, with no new node.
  pub built-back : build m (support_of σ ns) σ (lines_for σ ns) ≡ built (value (map pos ns)) σ
  unfolding build lines_for
  built-back = rest-built [] ns (parts-start ns)
