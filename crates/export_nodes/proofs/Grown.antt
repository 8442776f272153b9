-- What a store gains later changes no line of an export.
use mathlib.Core.Path.{◌≡◌, refl}
use mathlib.Core.List.{List, [], ◌∷◌, map}
use Prim.Native.Nat.{ℕ, zero, suc, ◌≤◌, ◌<◌}
use native.Mathlib.Omega.{arith}
use lib.ListN.{length, get_or}
use lib.IntN.{ℤ}
use Rattle.codes.specs.Limits.{Limits}
use Rattle.store.specs.Store.{Store}
use Rattle.store.specs.Growth.{Grows}
use Rattle.node_lines.specs.Line.{Line}
use Rattle.numbering.specs.Numbering.{numbering}
use Rattle.numbering.specs.Support.{support_of}
use Rattle.numbering.proofs.Grown.{numbering-grown, support-grown}
use Rattle.export_nodes.specs.Lines.{line_of_node, lines_for}
use Rattle.export_nodes.specs.Exported.{Exported}
use Rattle.export_nodes.proofs.Renumbered.{entry-node}

-- lines that are the same for each node of a list
map_same : (f g : ℕ → Line) (ns : List ℕ) → ((i : ℕ) → i < length ns → f (get_or ns i 0) ≡ g (get_or ns i 0)) → map f ns ≡ map g ns
map_same f g [] same = refl
map_same f g (n ∷ ns) same = rw (same 0 (omega arith), map_same f g ns (λ i h. same (suc i) (omega arith)))

module _ {σ τ : Store} (G : Grows σ τ) where
  -- the line of an old node stays the same
  node-grown : (support ns : List ℕ) (n : ℕ) → 1 ≤ n → n ≤ σ.count → line_of_node τ support ns n ≡ line_of_node σ support ns n
  unfolding line_of_node
  node-grown support ns zero some there = absurd (omega arith)
  node-grown support ns (suc zero) some there = refl
  node-grown support ns (suc (suc k)) some there =
      let two : 2 ≤ suc (suc k) = omega arith in
      rw (G.level (suc (suc k)) two there, G.then (suc (suc k)) two there, G.els (suc (suc k)) two there)

  module _ {m : Limits} {roots : List ℤ} (E : Exported m σ roots) where
    abbrev ns : List ℕ
    ns = numbering σ roots

    -- the same nodes have lines, in the same order ..
    pub nodes-grown : numbering τ roots ≡ ns
    nodes-grown = numbering-grown G roots E.rules.nodes E.roots_there

    -- .. their levels are the same ..
    pub levels-grown : support_of τ (numbering τ roots) ≡ support_of σ ns
    levels-grown = rw nodes-grown (support-grown G ns (λ i h. (entry-node E i h).there))

    -- .. and so is each line
    pub lines-grown : lines_for τ (numbering τ roots) ≡ lines_for σ ns
    unfolding lines_for
    lines-grown =
        rw (levels-grown, nodes-grown)
        (map_same _ _ ns (λ i h. node-grown (support_of σ ns) ns (get_or ns i 0) (entry-node E i h).some (entry-node E i h).there))
