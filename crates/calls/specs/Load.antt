-- The call load, as a whole. Document 01: 'load gives 1 (lists), 3, 19 for the input's length, header, 1 (scratch), 2, nodes, 39.'
use Rattle.std.specs.Prelude.{ℕ, zero, suc, not, ◌&&◌, List, [], ◌∷◌, map, eqb, leb, length, replicate, ℤ, pos}
use Rattle.codes.specs.Lent.{laid}
use Rattle.read_text.specs.Text.{Place, start_of, len_of}
use Rattle.store.specs.Store.{Store}
use Rattle.codes.specs.Limits.{Limits}
use Rattle.store.specs.Keeps.{keeps}
use Rattle.header_values.specs.Values.{pad}
use Rattle.codes.specs.Faults.{first_fault, unless}
use Rattle.header.specs.Header as head
use Rattle.level_list.specs.List.{list_fits}
use Rattle.imported.specs.Import as nodes

-- the lengths of the lists that a load is lent: those of variables, those of roots, and the node scratch
pub record Lengths : Type 0 where
  pub ids : ℕ
  pub order : ℕ
  pub permids : ℕ
  pub auxids : ℕ
  pub names : ℕ
  pub lens : ℕ
  pub roots : ℕ
  pub rootnames : ℕ
  pub rootlens : ℕ
  pub edges : ℕ
  pub seats : ℕ

-- '4,096 entries for each variable list, 1,024 for each root list'
abbrev pub variable_lists : Lengths → List ℕ
variable_lists l = l.ids ∷ l.order ∷ l.permids ∷ l.auxids ∷ l.names ∷ l.lens ∷ []

abbrev pub root_lists : Lengths → List ℕ
root_lists l = l.roots ∷ l.rootnames ∷ l.rootlens ∷ []

-- a load: its file, its level list, and what it is lent
pub record Load : Type 0 where
  pub file : List ℕ
  pub list : List ℕ
  pub lent : Lengths

-- What a load leaves: its answer, the store, the list of roots as it was lent, and the entries of every other list, which zeros follow.
pub record Loaded : Type 0 where
  pub answer : head.HeaderAnswer
  pub after : Store
  pub roots : List ℤ
  pub ids : List ℕ
  pub order : List ℕ
  pub permids : List ℕ
  pub auxids : List ℕ
  pub names : List Place
  pub rootnames : List Place

-- 'On any refusal outputs are all zeros and the store is unchanged.'
abbrev pub refused_at : Load → Store → ℕ → ℕ → Loaded
refused_at c σ n line = record {
  answer = head.refusal n line;
  after = σ;
  roots = replicate c.lent.roots (pos 0);
  ids = [];
  order = [];
  permids = [];
  auxids = [];
  names = [];
  rootnames = [];
}

-- '1 (lists)': '1 a lent part too short: 4,096 entries for each variable list, 1,024 for each root list'. Of each check 0 stands for no
-- refusal.
abbrev pub lent_fault : Lengths → ℕ
lent_fault l = head.lists_fault (variable_lists l) (root_lists l)

-- '3 the store breaks its rules'
abbrev pub store_fault : Limits → Store → ℕ
store_fault m σ = unless (keeps m σ) 3

-- '19 for the input's length': 'input [the limit] bytes (19, line 0, before all reading)'
abbrev pub input_fault : Limits → List ℕ → ℕ
input_fault m f = head.length_fault m (length f)

-- '1 (lists), 3, 19 for the input's length': the first of them
unfoldable pub before_header : Limits → Load → Store → ℕ
before_header m c σ = first_fault (lent_fault c.lent ∷ store_fault m σ ∷ input_fault m c.file ∷ [])

-- 'header'
unfoldable pub header_of : Limits → Load → Store → head.HeaderLoaded
header_of m c σ = head.load_header m (before_header m c σ) c.file

-- '1 (scratch)': '1 a lent part too short: .. `.nnodes` for node scratch', by the lengths of its two lists
unfoldable pub scratch_fault : ℕ → ℕ → ℕ → ℕ
scratch_fault nnodes edges seats = unless (leb nnodes edges && leb nnodes seats) 1

-- '2 the level list isn't one level per support variable, strictly ascending, below the store's level count'
unfoldable pub list_fault : ℕ → ℕ → List ℕ → ℕ
list_fault nsuppvars levels list = unless (list_fits nsuppvars levels list) 2

-- '1 (scratch), 2': the first of them
unfoldable pub before_nodes : Load → Store → head.Header → ℕ
before_nodes c σ h =
    first_fault
    (scratch_fault h.nnodes c.lent.edges c.lent.seats
    ∷ list_fault h.nsuppvars σ.levels c.list
    ∷ [])

-- how the nodes of a header are read, by a level list and in a store of so many levels: varinfo 4 stands for no extra word
abbrev pub setup_for : List ℕ → ℕ → head.Header → nodes.Setup
setup_for list levels h = nodes.setup h.ascii (not (eqb h.varinfo 4)) h.nnodes h.lines list levels

abbrev pub setup_of : Load → ℕ → head.Header → nodes.Setup
setup_of c levels h = setup_for c.list levels h

-- 'nodes, 39': the roots take the place of their numbers
abbrev pub nodes_of : Limits → Load → Store → head.Header → nodes.Imported
nodes_of m c σ h =
    nodes.import_of m (setup_of c σ.levels h) σ c.file h.next (laid (header_of m c σ).roots (replicate c.lent.roots (pos 0)))

abbrev pub with_nodes : Limits → Load → Store → head.Header → nodes.Imported → nodes.NodesAnswer → Loaded
with_nodes m c σ h r (nodes.refusal k line) = refused_at c σ k line
with_nodes m c σ h r (nodes.nodes at) = record {
  answer = head.header h;
  after = r.after;
  roots = r.roots;
  ids = (header_of m c σ).ids;
  order = (header_of m c σ).order;
  permids = (header_of m c σ).permids;
  auxids = (header_of m c σ).auxids;
  names = (header_of m c σ).names;
  rootnames = (header_of m c σ).rootnames;
}

-- after scratch and level list
abbrev pub with_list : Limits → Load → Store → head.Header → ℕ → Loaded
with_list m c σ h (suc k) = refused_at c σ (suc k) 0
with_list m c σ h zero = with_nodes m c σ h (nodes_of m c σ h) (nodes_of m c σ h).answer

-- after the header
abbrev pub with_header : Limits → Load → Store → head.HeaderAnswer → Loaded
with_header m c σ (head.refusal n line) = refused_at c σ n line
with_header m c σ (head.header h) = with_list m c σ h (before_nodes c σ h)

-- 'load gives 1 (lists), 3, 19 for the input's length, header, 1 (scratch), 2, nodes, 39'
unfoldable pub load_of : Limits → Load → Store → Loaded
load_of m c σ = with_header m c σ (header_of m c σ).answer

-- the lists themselves that a load is lent beside the store
pub record Parts : Type 0 where
  pub ids : List ℕ
  pub order : List ℕ
  pub permids : List ℕ
  pub auxids : List ℕ
  pub names : List ℕ
  pub lens : List ℕ
  pub roots : List ℤ
  pub rootnames : List ℕ
  pub rootlens : List ℕ
  pub edges : List ℤ
  pub seats : List ℕ

abbrev pub parts : List ℕ → List ℕ → List ℕ → List ℕ → List ℕ → List ℕ → List ℤ → List ℕ → List ℕ → List ℤ → List ℕ → Parts
parts ids order permids auxids names lens roots rootnames rootlens edges seats = record {
  ids = ids;
  order = order;
  permids = permids;
  auxids = auxids;
  names = names;
  lens = lens;
  roots = roots;
  rootnames = rootnames;
  rootlens = rootlens;
  edges = edges;
  seats = seats;
}

abbrev pub lengths_of : Parts → Lengths
lengths_of p = record {
  ids = length p.ids;
  order = length p.order;
  permids = length p.permids;
  auxids = length p.auxids;
  names = length p.names;
  lens = length p.lens;
  roots = length p.roots;
  rootnames = length p.rootnames;
  rootlens = length p.rootlens;
  edges = length p.edges;
  seats = length p.seats;
}

-- a load of a file at the levels of a list, lent these parts
abbrev pub load_into : List ℕ → List ℕ → Parts → Load
load_into f list p = record { file = f; list = list; lent = lengths_of p }

-- What the parts hold after a load: the entries of each list, names as starts and lengths, and zeros. 'Scratch ends as zeros.'
abbrev pub parts_of : Lengths → Loaded → Parts
parts_of l r = parts
    (pad l.ids r.ids)
    (pad l.order r.order)
    (pad l.permids r.permids)
    (pad l.auxids r.auxids)
    (pad l.names (map start_of r.names))
    (pad l.lens (map len_of r.names))
    r.roots
    (pad l.rootnames (map start_of r.rootnames))
    (pad l.rootlens (map len_of r.rootnames))
    (replicate l.edges (pos 0))
    (replicate l.seats 0)
