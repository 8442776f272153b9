-- The nodes of an export, read back into the store that they came from.
use mathlib.Core.Path.{◌≡◌}
use mathlib.Core.Bool.{Bool, true}
use mathlib.Core.List.{List}
use Prim.Native.Nat.{ℕ, ◌+◌}
use native.Mathlib.Omega.{arith}
use lib.ListN.{length, length-map}
use lib.IntN.{ℤ}
use Rattle.codes.specs.Limits.{Limits, RoomForExports}
use Rattle.codes.proofs.Bytes.{both}
use Rattle.store.specs.Store.{Store}
use Rattle.seats.specs.Ordered.{ascending}
use Rattle.support.specs.Support.{last_below, ids_fit}
use Rattle.numbering.specs.Numbering.{numbering}
use Rattle.numbering.specs.Support.{support_of}
use Rattle.export_support.proofs.SupportLevels.{support-fits}
use Rattle.export_nodes.specs.Lines.{lines_for}
use Rattle.node_writers.specs.Encoded.{node_bytes, end_text}
use Rattle.imported.specs.Import.{ends_well, lines_answer, import_of}
use Rattle.export_nodes.specs.Exported.{Exported}
use Rattle.export_nodes.proofs.Renumbered.{lines-few}
use Rattle.export_nodes.proofs.Support.{support-few}
use Rattle.reading_nodes.specs.Back.{Stand, LinesBack, NodesBack}
use Rattle.reading_nodes.proofs.Standing.{stands_after}
use Rattle.reading_nodes.proofs.LinesJudged.{lines-judged, lines-plain}
use Rattle.reading_nodes.proofs.LinesBack.{lines_back, end_back}
use Rattle.reading_nodes.proofs.Built.{built-back}
use Rattle.reading_nodes.proofs.RootsBack.{roots-back}

-- The nodes of an export stand in a file from a position on, after a header of so many lines.
module _ {m : Limits} (W : RoomForExports m) {σ : Store} {roots : List ℤ} (E : Exported m σ roots)
    (ascii : Bool) (f : List ℕ) (at lines : ℕ) (stand : Stand ascii σ (numbering σ roots) f at) where
  abbrev ns : List ℕ
  ns = numbering σ roots

  -- the levels of the support ascend
  ascends : ascending (support_of σ ns) ≡ true
  unfolding ids_fit
  ascends = (both (ascending (support_of σ ns)) (last_below σ.levels (support_of σ ns)) (support-fits σ ns)).0

  lines-counted : length (lines_for σ ns) ≡ length ns
  unfolding lines_for
  lines-counted = length-map ns _

  -- Each line is read as itself,
  all-lines-back : LinesBack ascii σ ns f at lines
  all-lines-back =
      let sizes = E.rules.sizes in
      rw lines-counted at
      (lines_back σ.levels (support_of σ ns) ascends (omega (arith, support-few σ ns, W.few_levels))
      f ascii (lines_for σ ns) (lines-plain E) (lines-judged E)
      (omega (arith, lines-counted, lines-few E, W.few_digits)) lines at end_text stand)

  -- and the file ends well after them.
  ends-well : ends_well f (at + length (node_bytes ascii (lines_for σ ns))) ≡ true
  ends-well = end_back f _ (stands_after f at (node_bytes ascii (lines_for σ ns)) end_text stand)

  -- So the nodes are accepted; the store is the one before, with no new node, and the roots are the same, signs included.
  pub nodes-read-back : (lent : ℕ) → NodesBack m ascii σ roots ns f at lines lent
  unfolding import_of lines_answer
  nodes-read-back lent = record { lines_back = all-lines-back; imported = rw (all-lines-back, built-back E, ends-well, roots-back E lent) }
