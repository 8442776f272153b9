-- The call load gives back an exported file, text or binary: into its store, or any that it has grown into, at its own levels, with no new
-- node, as the same roots.
use mathlib.Core.Path.{◌≡◌, refl, ap, ◌∙◌}
use mathlib.Core.Bool.{true}
use mathlib.Core.List.{List}
use Prim.Native.Nat.{ℕ, ◌≤◌}
use native.Mathlib.Omega.{arith}
use lib.Dec.{leb}
use lib.ListN.{length, take}
use lib.IntN.{ℤ}
use borrow.Author.Tests.{leb-true}
use Rattle.codes.specs.Answer.{value}
use Rattle.codes.specs.Limits.{Limits, RoomForExports, root_limit}
use Rattle.codes.proofs.Bytes.{both}
use Rattle.store.specs.Store.{Store}
use Rattle.store.specs.Rules.{Rules}
use Rattle.store.specs.Growth.{Grows}
use Rattle.store.specs.Keeps.{rules-keeps}
use Rattle.header.specs.Header as head
use Rattle.header.specs.Header.{Header, header, answer_of, at_least}
use Rattle.numbering.specs.Numbering.{numbering}
use Rattle.imported.specs.Import.{nodes}
use Rattle.heading.specs.Tables.{Lent}
use Rattle.exported.specs.Settings.{Settings}
use Rattle.exported.specs.Export.{heading_of, Export, export_file_of, export_of}
use Rattle.exported.proofs.Accepted.{Accepted, exported}
use Rattle.exported.proofs.Answered.{answered-accepted, answered}
use Rattle.exported.proofs.Grown.{heading-grown}
use Rattle.export_nodes.specs.Exported.{Exported}
use Rattle.export_nodes.proofs.Grown.{nodes-grown, levels-grown}
use Rattle.reading_header.specs.HeaderBack.{header_for, loaded_from}
use Rattle.reading_back.specs.ReadsBack.{own_levels, ReadsBack, import_by, GivesBack}
use Rattle.reading_back.proofs.ReadsBack.{later-back}
use Rattle.reading_back.proofs.ImportedAlike.{led-back}
use Rattle.calls.specs.Load.{Lengths, Load, root_lists, header_of, nodes_of, load_of}
use Rattle.demands.specs.LoadsBack.{LongEnough, LoadsBack, LoadsInto, OutputLoads, OutputLoadsLater}
use Rattle.calls.specs.Lists.{run_calls}
use Rattle.calls.proofs.Growing.{run-grows, run-rules}
use Rattle.calls.proofs.HeaderStands.{length-left, lists-answer}
use Rattle.calls.proofs.Passes.{none_between, Passes, passes-load}

-- lists of roots that are long enough have room for every root that an export takes
roots-room : (l : Lengths) → at_least root_limit (root_lists l) ≡ true → root_limit ≤ l.roots
unfolding at_least
roots-room l q = leb-true root_limit l.roots (both (leb root_limit l.roots) _ q).0

module _ {m : Limits} {s : Settings} {τ : Store} {roots : List ℤ} {order : List ℕ} {p : Lent} {f : List ℕ} {l : Lengths} (R : Rules m τ)
    (few : length roots ≤ root_limit) (long : LongEnough (length (numbering τ roots)) l) (b : ReadsBack m s τ roots order p f l.roots) where
  abbrev c : Load
  c = record { file = f; list = own_levels τ roots; lent = l }

  abbrev h : Header
  h = header_for (heading_of s τ roots order p) b.header_back.dd

  -- neither lists nor store are refused: what is read is the file's header by itself
  header-lists : header_of m c τ ≡ loaded_from m f
  unfolding header_of head.load_header answer_of
  header-lists = ap (λ n. head.load_header m n f) (length-left m c τ long.variables long.roots (rules-keeps m τ R))

  header_read : (header_of m c τ).answer ≡ header h
  header_read = ap (λ r. r.answer) header-lists ∙ lists-answer f (answer_of m f) ∙ b.header_back.answer

  -- the import of its nodes, as the header leads to it
  import-given : GivesBack τ roots l.roots (import_by m f h τ (own_levels τ roots) l.roots)
  import-given = led-back b b.header_back.answer

  -- and that is the import of the load
  nodes_read : (nodes_of m c τ h).answer ≡ nodes import-given.end
  nodes_read = rw header-lists import-given.accepted

  passes : Passes m c τ h
  unfolding heading_of
  passes = record {
    header_read = header_read;
    unrefused = none_between c τ h long.edges long.seats b.levels_fit;
    at = import-given.end;
    nodes_read = nodes_read;
  }

  -- A file that reads back loads back.
  loads-back : LoadsBack m (heading_of s τ roots order p) roots τ f l (load_of m c τ)
  loads-back =
      rw (passes-load m c τ h passes, header-lists) (record {
        header_back = b.header_back;
        accepted = refl;
        unchanged = import-given.unchanged;
        roots_do_fit = omega (arith, few, roots-room l long.roots);
        same = import-given.same;
        ids = refl;
        order_read = refl;
        permids = refl;
        auxids = refl;
        names = refl;
        rootnames = refl;
      })

module _ {m : Limits} (W : RoomForExports m) (x : Export) (σ : Store) (n : ℕ) (q : (export_of m x σ).answer ≡ value n) where
  A : Accepted m σ x.roots x.order x.names x.slots x.numbers x.out
  A = answered-accepted m x σ n q

  E : Exported m σ x.roots
  E = exported A

  -- the file is the front of the output
  output-file : take n (export_of m x σ).out ≡ export_file_of x σ
  output-file = (answered m x σ n q W).front

  -- its file loads back into every store that this one has grown into
  loads-into : (τ : Store) → Grows σ τ → Rules m τ → LoadsInto m x σ τ
  loads-into τ G R l long =
      rw (← heading-grown G x.settings x.order x.names E, ← levels-grown G E)
      (loads-back R A.roots_few (rw (nodes-grown G E) long) (later-back W A G R x.settings l.roots))

  -- Demand 2, for the call load: where the answer of an export is a length, so many bytes of its output load back,
  pub export-loads : OutputLoads m x σ n
  export-loads = record { file = output-file; loads = loads-into }

  -- after any calls too: the store has only grown, and keeps the rules that the export has shown.
  pub export-loads-later : OutputLoadsLater m x σ n
  export-loads-later = record {
    file = output-file;
    loads = λ cs. loads-into (run_calls m σ cs) (run-grows m σ cs) (run-rules m σ cs A.rules);
  }
