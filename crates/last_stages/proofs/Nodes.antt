-- The nodes of a load, as the function that reads them finds them: by the header's case of the answer so far.
use mathlib.Core.Path.{◌≡◌}
use mathlib.Core.Bool.{Bool, not}
use mathlib.Core.List.{List}
use Prim.Native.Nat.{ℕ, ◌≤◌}
use lib.Dec.{eqb}
use lib.ListN.{length, replicate}
use lib.IntN.{ℤ, pos}
use Rattle.std.specs.Prelude.{Ok, Err}
use Rattle.header_values.specs.Kinds.{of_var_info}
use Rattle.store.specs.Store.{Store}
use Rattle.codes.specs.Limits.{limits, node_limit}
use Rattle.store.specs.Rules.{Rules}
use Rattle.unique_table.specs.Index.{Finds, width_for}
use Rattle.slots.specs.Most.{most_nodes}
use Rattle.header.specs.Header.{refusal}
use Rattle.header.specs.Kinds.{Loaded, of_header, of_loaded}
use Rattle.header.specs.declared.DumpHeader.{DumpHeader}
use Rattle.codes.specs.declared.refusal.Fault.{Fault}
use Rattle.imported.specs.Build.{LevelsOf}
use Rattle.imported.specs.Import as nodes
use Rattle.stages.specs.Stages.{Readable, Searchable, Noded, noded, nodes_after}

-- what a refusal so far leaves
abbrev pub none_noded : ℕ → ℕ → Store → List ℤ → Noded
none_noded n line σ ids = record { answer = refusal n line; after = σ; roots = replicate (length ids) (pos 0) }

module _ (r : Loaded) (σ : Store) (list : List ℕ) where
  module _ (h : DumpHeader) (q : r ≡ Ok h) where
    -- how the nodes are read, given whether lines have an extra word
    abbrev by : Bool → nodes.Setup
    by x = nodes.setup h.ascii x h.nnodes h.lines list σ.levels

    module _ (e s : ℕ) (p : Readable (of_loaded r) σ list e s) where
      -- where the answer so far is a header, its nodes are few
      pub few_nodes : h.nnodes ≤ node_limit
      few_nodes = (rw q at p).1.1.nodes

      -- and what their import leans on holds
      pub import-may : {x : Bool} → x ≡ not (eqb (of_var_info h.varinfo) 4)
          → Rules limits σ × (LevelsOf σ list × nodes.Bounded (by x) e s)
      import-may y = rw y (rw q at p)

    -- and the work finds the store's nodes
    pub nodes-found : (work : List ℕ) → Searchable (of_loaded r) σ work
        → Finds (width_for (most_nodes (length σ.level)) (length work)) σ σ.count work
    nodes-found work p = rw q at p

    -- the nodes leave what their import leaves
    pub nodes-noded : {x : Bool} → x ≡ not (eqb (of_var_info h.varinfo) 4) → (f : List ℕ) (ids : List ℤ)
        → noded (of_header h) (nodes.import_of limits (by x) σ f h.next ids) ≡ nodes_after (of_loaded r) σ f list ids
    unfolding nodes_after
    nodes-noded y f ids = rw (q, y)

  -- after a refusal they leave the store, and zeros for the roots
  pub nodes-none : (fault : Fault) → r ≡ Err fault → (f : List ℕ) (ids : List ℤ)
      → none_noded fault.number fault.line σ ids ≡ nodes_after (of_loaded r) σ f list ids
  unfolding nodes_after
  nodes-none fault q f ids = rw q
