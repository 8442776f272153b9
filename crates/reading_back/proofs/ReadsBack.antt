-- An exported file reads back: into the store that it came from, or any that it has grown into, with no new node, as the same roots.
use mathlib.Core.Path.{◌≡◌, refl, subst}
use mathlib.Core.Bool.{true}
use mathlib.Core.List.{List, ◌++◌}
use Prim.Native.Nat.{ℕ, ◌≤◌}
use native.Mathlib.Omega.{arith}
use lib.ListN.{length}
use lib.Seq.{drop-append_seam}
use lib.IntN.{ℤ}
use borrow.Author.Tests.{eq-eqb}
use Rattle.store.specs.Store.{Store}
use Rattle.codes.specs.Limits.{Limits, RoomForExports}
use Rattle.store.specs.Rules.{Rules}
use Rattle.store.specs.Growth.{Grows}
use Rattle.numbering.specs.Numbering.{numbering}
use Rattle.numbering.specs.Support.{support_of}
use Rattle.export_support.proofs.SupportLevels.{support-fits}
use Rattle.export_nodes.specs.Exported.{Exported}
use Rattle.export_nodes.specs.Lines.{lines_for}
use Rattle.export_nodes.proofs.Renumbered.{lines-few}
use Rattle.node_writers.specs.Encoded.{node_bytes, end_text}
use Rattle.level_list.specs.List.{list_fits}
use Rattle.heading.specs.Heading.{head_text}
use Rattle.heading.specs.Tables.{Lent}
use Rattle.exported.specs.Settings.{Settings}
use Rattle.exported.specs.Export.{export_fault, heading_of, file_of}
use Rattle.exported.proofs.Accepted.{Accepted, exported, accepted}
use Rattle.exported.proofs.Grown.{file-grown, accepted-grown}
use Rattle.reading_header.proofs.HeaderBack.{header_back}
use Rattle.reading_nodes.specs.Back.{Stand}
use Rattle.reading_nodes.proofs.NodesBack.{nodes-read-back}
use Rattle.reading_back.specs.ReadsBack.{ReadsBack}
use Rattle.reading_back.proofs.HeadingFit.{heading-fit}
use Rattle.reading_back.proofs.FileShort.{input-short}

module _ {m : Limits} (W : RoomForExports m) {σ : Store} {roots : List ℤ} {order : List ℕ} {p : Lent} {slots numbers out : ℕ}
    (A : Accepted m σ roots order p slots numbers out) (s : Settings) where
  abbrev ns : List ℕ
  ns = numbering σ roots

  abbrev f : List ℕ
  f = file_of s σ roots order p

  abbrev head : List ℕ
  head = head_text (heading_of s σ roots order p)

  abbrev rest : List ℕ
  rest = node_bytes s.ascii (lines_for σ ns) ++ end_text

  E : Exported m σ roots
  E = exported A

  -- the nodes stand behind the header
  stand : Stand s.ascii σ ns f (length head)
  unfolding file_of
  stand = drop-append_seam head rest

  -- the levels of the support are one for each support variable
  own-levels : list_fits (length (support_of σ ns)) σ.levels (support_of σ ns) ≡ true
  unfolding list_fits
  own-levels = rw (eq-eqb (length (support_of σ ns)) (length (support_of σ ns)) refl) (support-fits σ ns)

  -- there are no more nodes than a load takes
  few : (heading_of s σ roots order p).nnodes ≤ m.nodes
  unfolding heading_of
  few = omega (arith, lines-few E, A.rules.sizes.count_limit)

  -- An accepted export reads back.
  pub accepted-back : (lent : ℕ) → ReadsBack m s σ roots order p f lent
  unfolding file_of
  accepted-back lent =
      let short = input-short W A s in
      record {
        short = short;
        header_back = header_back m _ f rest (heading-fit W A s) few short refl;
        levels_fit = own-levels;
        nodes_back = nodes-read-back W E s.ascii f (length head) _ stand lent;
      }

-- So it does into every store that the exporting one has grown into: the file is as if exported from there.
pub later-back : {m : Limits} → RoomForExports m → {σ τ : Store} {roots : List ℤ} {order : List ℕ} {p : Lent} {slots numbers out : ℕ}
    → Accepted m σ roots order p slots numbers out → Grows σ τ → Rules m τ → (s : Settings) (lent : ℕ)
    → ReadsBack m s τ roots order p (file_of s σ roots order p) lent
later-back {m} W {σ} {τ} {roots} {order} {p} A G R s lent =
    subst (λ f. ReadsBack m s τ roots order p f lent) (file-grown G s order p (exported A)) (accepted-back W (accepted-grown G R A) s lent)

-- Demand 2: an export that isn't refused reads back.
pub reads-back : {m : Limits} → RoomForExports m → (σ : Store) (roots : List ℤ) (order : List ℕ) (p : Lent) (slots numbers out : ℕ)
    → export_fault m σ roots order p slots numbers out ≡ 0 → (s : Settings) (lent : ℕ)
    → ReadsBack m s σ roots order p (file_of s σ roots order p) lent
reads-back W σ roots order p slots numbers out e = accepted-back W (accepted σ roots order p slots numbers out e)
