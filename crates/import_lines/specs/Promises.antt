-- What reading the nodes of a file asks and promises.
use Rattle.std.specs.Prelude.{ℕ, ◌≤◌, ◌<◌, ◌≡◌, List, length, replicate, get_or, ℤ, pos, nat_abs, Bool, Option, Result, Ok, Err}
use Rattle.codes.specs.declared.refusal.Fault.{Fault}
use Rattle.store.specs.Store.{Store}
use Rattle.codes.specs.Limits.{limits}
use Rattle.store.specs.Rules.{Rules}
use Rattle.store.specs.Make.{Makes}
use Rattle.codes.specs.Answer.{Step, got, fails}
use Rattle.codes.specs.Lent.{Part, old, new}
pub use Rattle.codes.specs.Lent.{borrowed}
use Rattle.unique_table.specs.Index.{Finds, width_for}
use Rattle.slots.specs.Most.{most_nodes}
use Rattle.insertion.specs.Kinds.{of_making}
use Rattle.insertion.specs.Known.{KnownNodes}
use Rattle.node_lines.specs.Kinds.{line_said}
use Rattle.node_lines.specs.declared.NodeLine.{NodeLine}
use Rattle.node_lines.specs.Line.{Line, terminal, inner}
use Rattle.import_steps.specs.declared.Setup.{Setup}
use Rattle.import_steps.specs.Kinds.{of_imported, of_setup}
use Rattle.imported.specs.Build.{LevelsOf, AllEdges, edge_for, add_line}
use Rattle.imported.specs.Import as meant
use Rattle.imported.specs.Import.{line_for, built_from, lines_answer, import_of, Laid, Bounded}

-- a node line that is read, and the position after it; or its refusal, and the line of the file that has it
abbrev pub LineRead : Bool → ℕ → Step Line → Result (NodeLine × ℕ) Fault → Type 0
LineRead ascii line s (Ok (l, next)) = got (line_said l) next ≡ s
LineRead ascii line s (Err x) = (fails x.number ≡ s) × (x.line ≡ line_for ascii line x.number)

-- what an inner line asks that is made: a support position, two lines, and children that lie deeper
pub record InnerAsks (σ : Store) (levels : List ℕ) (edges : List ℤ) (p : ℕ) (t e : ℤ) : Type 0 where
  pub position : p < length levels
  pub then : 1 ≤ nat_abs t
  pub els : 1 ≤ nat_abs e
  pub children : Makes σ (get_or levels p 0) (edge_for edges t) (edge_for edges e)

abbrev pub LineAsks : Store → List ℕ → List ℤ → Line → Type 0
LineAsks σ levels edges terminal = Unit
LineAsks σ levels edges (inner p t e) = InnerAsks σ levels edges p t e

-- what a line asks that is made: a store that keeps its rules, an index that knows its nodes, and edges of the lines before
pub record AddAsks (σ : Store) (index : List ℕ) (width : ℕ) (levels : List ℕ) (edges : List ℤ) (l : Line) : Type 0 where
  pub rules : Rules limits σ
  pub known : KnownNodes width σ index
  pub all_edges : AllEdges edges
  pub line : LineAsks σ levels edges l

-- the line is made into the store
pub record AddPromise (before after : Store) (index : List ℕ) (width : ℕ) (levels : List ℕ) (edges : List ℤ) (l : Line) (r : Option ℤ) : Type 0 where
  pub answer : of_making r ≡ (add_line limits levels before edges l).answer
  pub store : after ≡ (add_line limits levels before edges l).after
  pub known : KnownNodes width after index

module _ (setup : Setup) (list : List ℕ) (σ : Store) (edges : List ℤ) (seats : List ℕ) where
  -- a store that keeps its rules, levels of it, limits that were judged before, and work that finds the store's nodes
  pub record ImportAsks (work : List ℕ) : Type 0 where
    pub rules : Rules limits σ
    pub levels_fit : LevelsOf σ list
    pub bounds : Bounded (of_setup setup list σ.levels) (length edges) (length seats)
    pub finds : Finds (width_for (most_nodes (length σ.level)) (length work)) σ σ.count work

  -- the same with an index that knows the store's nodes and has room for more
  pub record LinesAsks (index : List ℕ) (width : ℕ) : Type 0 where
    pub rules : Rules limits σ
    pub levels_fit : LevelsOf σ list
    pub bounds : Bounded (of_setup setup list σ.levels) (length edges) (length seats)
    pub known : KnownNodes width σ index

-- The file and the position of its nodes; the store as the call starts, and as it ends.
module _ (f : List ℕ) (from : ℕ) (setup : Setup) (list : List ℕ) (before after : Store) where
  -- what the nodes are read by
  abbrev by : meant.Setup
  by = of_setup setup list before.levels

  -- The lines up to the first that is refused are made into the store, and their edges lie over the front of the scratch.
  pub record LinesPromise (edges : List ℤ) (r : Result ℕ Fault) : Type 0 where
    pub answer : of_imported r ≡ lines_answer limits by before f from
    pub store : after ≡ (built_from limits by before f from).after
    pub laid : Laid (built_from limits by before f from).answer edges

  -- 'On any refusal outputs are all zeros and the store is unchanged; .. Scratch ends as zeros.'
  pub record ImportPromise (edges : Part (List ℤ)) (seats : Part (List ℕ)) (roots : Part (List ℤ)) (work : Part (List ℕ)) (r : Result ℕ Fault) :
      Type 0 where
    pub answer : of_imported r ≡ (import_of limits by before f from (old roots)).answer
    pub store : after ≡ (import_of limits by before f from (old roots)).after
    pub roots_left : new roots ≡ (import_of limits by before f from (old roots)).roots
    pub edges_left : new edges ≡ replicate (length (old edges)) (pos 0)
    pub seats_left : new seats ≡ replicate (length (old seats)) 0
    pub work_left : new work ≡ replicate (length (old work)) 0
