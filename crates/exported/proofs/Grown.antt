-- What a store gains later changes nothing of an export's file, nor that its export is accepted.
use mathlib.Core.Path.{◌≡◌, sym, ◌∙◌}
use mathlib.Core.List.{List}
use Prim.Native.Nat.{ℕ}
use native.Mathlib.Nat.{le_refl}
use lib.ListN.{length}
use lib.IntN.{ℤ}
use Rattle.store.specs.Store.{Store}
use Rattle.codes.specs.Limits.{Limits}
use Rattle.store.specs.Rules.{Rules}
use Rattle.store.specs.Growth.{Grows}
use Rattle.store.proofs.Growth.{grow-edge}
use Rattle.export_size.specs.Size.{export_size}
use Rattle.export_nodes.specs.Exported.{Exported}
use Rattle.export_nodes.proofs.Grown.{nodes-grown, levels-grown, lines-grown}
use Rattle.heading.specs.Tables.{Lent}
use Rattle.exported.specs.Settings.{Settings}
use Rattle.exported.specs.Export.{heading_of, file_of}
use Rattle.exported.proofs.Accepted.{Accepted}

module _ {σ τ : Store} (G : Grows σ τ) {roots : List ℤ} where
  module _ {m : Limits} (s : Settings) (order : List ℕ) (p : Lent) (E : Exported m σ roots) where
    -- the header says the same
    pub heading-grown : heading_of s τ roots order p ≡ heading_of s σ roots order p
    unfolding heading_of
    heading-grown = rw (levels-grown G E, nodes-grown G E)

    -- so the file is the same, byte by byte
    pub file-grown : file_of s τ roots order p ≡ file_of s σ roots order p
    unfolding file_of
    file-grown = rw (heading-grown, lines-grown G E)

  -- roots, order and names that were accepted would be so later, with marks and output of the lengths that are wanted then
  pub accepted-grown : {m : Limits} {order : List ℕ} {p : Lent} {slots numbers out : ℕ} → Rules m τ → Accepted m σ roots order p slots numbers out
      → Accepted m τ roots order p τ.count τ.count (export_size τ.count τ.levels (length roots) p.lens p.rootlens p.dd.len)
  accepted-grown R A = record {
    slots_long = le_refl _;
    numbers_long = le_refl _;
    out_long = le_refl _;
    rules = R;
    roots_few = A.roots_few;
    roots_there = λ i h. grow-edge G _ (A.roots_there i h);
    order_long = A.order_long ∙ sym G.levels;
    is_an_order = A.is_an_order;
    names = A.names;
  }
