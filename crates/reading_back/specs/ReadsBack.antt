-- An exported file, read back. Demand 2: an exported file, text or binary, reads back as the same roots. Stated over header and node lines.
use Rattle.std.specs.Prelude.{ℕ, ◌≤◌, ◌≡◌, true, not, List, eqb, length, replicate, ℤ, pos}
use Rattle.codes.specs.Limits.{Limits}
use Rattle.codes.specs.Lent.{laid}
use Rattle.store.specs.Store.{Store}
use Rattle.header.specs.Header.{Header}
use Rattle.numbering.specs.Numbering.{numbering}
use Rattle.numbering.specs.Support.{support_of}
use Rattle.level_list.specs.List.{list_fits}
use Rattle.imported.specs.Import.{Imported, setup, nodes, import_of}
use Rattle.heading.specs.Heading.{head_lines, head_text}
use Rattle.heading.specs.Tables.{Lent}
use Rattle.exported.specs.Settings.{Settings}
use Rattle.exported.specs.Export.{heading_of}
use Rattle.reading_header.specs.HeaderBack.{loaded_from, HeaderBack}
use Rattle.reading_nodes.specs.Back.{NodesBack}

-- the levels of an export's own nodes, ascending
abbrev pub own_levels : Store → List ℤ → List ℕ
own_levels σ roots = support_of σ (numbering σ roots)

-- The file f is accepted, as header and as nodes, and gives back what was exported: into its store, at its own levels, with no new node, the
-- same roots, signs included; of the header what `HeaderBack` says. The roots are read into a lent list of a length.
pub record ReadsBack (m : Limits) (s : Settings) (σ : Store) (roots : List ℤ) (order : List ℕ) (p : Lent) (f : List ℕ) (lent : ℕ) : Type 0 where
  -- '19 .. input [the limit] bytes' isn't met
  pub short : length f ≤ m.input
  pub header_back : HeaderBack m (heading_of s σ roots order p) f
  -- 'at its own levels': the levels of the support are a level list that nothing is refused of
  pub levels_fit : list_fits (length (own_levels σ roots)) σ.levels (own_levels σ roots) ≡ true
  pub nodes_back : NodesBack m s.ascii σ roots (numbering σ roots) f (length (head_text (heading_of s σ roots order p)))
      (length (head_lines (heading_of s σ roots order p))) lent

-- What an import of a file's nodes leaves, as the file's header leads to it: into a store, at a level list, with a lent list of roots of a
-- length.
abbrev pub import_by : Limits → List ℕ → Header → Store → List ℕ → ℕ → Imported
import_by m f h σ levels lent =
    import_of m (setup h.ascii (not (eqb h.varinfo 4)) h.nnodes h.lines levels σ.levels) σ f h.next
    (laid (loaded_from m f).roots (replicate lent (pos 0)))

-- It is accepted, the store is as it was, and the roots stand in the lent list.
pub record GivesBack (σ : Store) (roots : List ℤ) (lent : ℕ) (r : Imported) : Type 0 where
  pub end : ℕ
  pub accepted : r.answer ≡ nodes end
  pub unchanged : r.after ≡ σ
  pub same : r.roots ≡ laid roots (replicate lent (pos 0))

-- Two imports leave the same store and the same roots.
pub record ReadAlike (r q : Imported) : Type 0 where
  pub store : r.after ≡ q.after
  pub roots : r.roots ≡ q.roots
