-- Demand 2, for the call load: an exported file, text or binary, reads back into its store, or any that it has grown into, at its own levels,
-- with no new node, as the same roots.
use Rattle.std.specs.Prelude.{ℕ, ◌≤◌, ◌≡◌, true, List, length, take, replicate, ℤ, pos}
use Rattle.codes.specs.Limits.{Limits, var_limit, root_limit}
use Rattle.codes.specs.Lent.{laid}
use Rattle.store.specs.Store.{Store}
use Rattle.store.specs.Rules.{Rules}
use Rattle.store.specs.Growth.{Grows}
use Rattle.header.specs.Header.{header, at_least}
use Rattle.numbering.specs.Numbering.{numbering}
use Rattle.heading.specs.Heading.{Heading}
use Rattle.exported.specs.Export.{heading_of, Export, export_file_of, export_of}
use Rattle.reading_header.specs.HeaderBack.{header_for, loaded_from, HeaderBack}
use Rattle.reading_back.specs.ReadsBack.{own_levels}
use Rattle.calls.specs.Load.{Lengths, variable_lists, root_lists, Load, Loaded, load_of}
use Rattle.calls.specs.Calls.{Call}
use Rattle.calls.specs.Lists.{run_calls}

-- a load of an export's file at the levels of its own nodes, lent lists of these lengths
abbrev pub own_load : Export → Store → Lengths → Load
own_load x σ l = record { file = export_file_of x σ; list = own_levels σ x.roots; lent = l }

-- '1 a lent part too short: 4,096 entries for each variable list, 1,024 for each root list, `.nnodes` for node scratch' isn't met, where
-- `.nnodes` is n
pub record LongEnough (n : ℕ) (l : Lengths) : Type 0 where
  pub variables : at_least var_limit (variable_lists l) ≡ true
  pub roots : at_least root_limit (root_lists l) ≡ true
  pub edges : n ≤ l.edges
  pub seats : n ≤ l.seats

-- What a load into the store τ leaves, where its file f is an export of the roots with the header h.
pub record LoadsBack (m : Limits) (h : Heading) (roots : List ℤ) (τ : Store) (f : List ℕ) (l : Lengths) (r : Loaded) : Type 0 where
  -- what the header of the file says is what was exported
  pub header_back : HeaderBack m h f
  -- the load is accepted, and its answer is that header
  pub accepted : r.answer ≡ header (header_for h header_back.dd)
  -- no new node
  pub unchanged : r.after ≡ τ
  -- the same roots, signs included: all of them, and zeros after them
  pub roots_do_fit : length roots ≤ l.roots
  pub same : r.roots ≡ laid roots (replicate l.roots (pos 0))
  -- the lists are those that `HeaderBack` speaks of
  pub ids : r.ids ≡ (loaded_from m f).ids
  pub order_read : r.order ≡ (loaded_from m f).order
  pub permids : r.permids ≡ (loaded_from m f).permids
  pub auxids : r.auxids ≡ (loaded_from m f).auxids
  pub names : r.names ≡ (loaded_from m f).names
  pub rootnames : r.rootnames ≡ (loaded_from m f).rootnames

-- Every load into the store τ, lent long enough parts, of the file of an export from the store σ, gives back what was exported. The file's
-- `.nnodes` is the number of its nodes.
abbrev pub LoadsInto : Limits → Export → Store → Store → Type 0
LoadsInto m x σ τ =
    (l : Lengths) → LongEnough (length (numbering σ x.roots)) l
    → LoadsBack m (heading_of x.settings σ x.roots x.order x.names) x.roots τ (export_file_of x σ) l (load_of m (own_load x σ l) τ)

-- The first n bytes of an export's output are its file, and it loads back into every store that the exporting one has grown into.
pub record OutputLoads (m : Limits) (x : Export) (σ : Store) (n : ℕ) : Type 0 where
  pub file : take n (export_of m x σ).out ≡ export_file_of x σ
  pub loads : (τ : Store) → Grows σ τ → Rules m τ → LoadsInto m x σ τ

-- The same after any calls: export, load other files, load back.
pub record OutputLoadsLater (m : Limits) (x : Export) (σ : Store) (n : ℕ) : Type 0 where
  pub file : take n (export_of m x σ).out ≡ export_file_of x σ
  pub loads : (cs : List Call) → LoadsInto m x σ (run_calls m σ cs)

-- Two exports of the same roots, by the same settings, with the same variable order and names, whatever lengths they are lent.
pub record SamePlan (x y : Export) : Type 0 where
  pub settings : x.settings ≡ y.settings
  pub roots : x.roots ≡ y.roots
  pub order : x.order ≡ y.order
  pub names : x.names ≡ y.names
