-- The roots that calls give, and what they mean.
use Rattle.std.specs.Prelude.{ℕ, suc, ◌≤◌, ◌<◌, ◌≡◌, Bool, not, List, [], ◌∷◌, length, get_or, ℤ, pos}
use Rattle.std.proofs.Math.Option.{Option, none, some}
use Rattle.std.proofs.Math.ListN.{get_elem?}
use Rattle.store.specs.Store.{Store}
use Rattle.codes.specs.Limits.{Limits}
use Rattle.store.specs.Rules.{Rules}
use Rattle.store.specs.Growth.{EdgeOf, Grows}
use Rattle.store.specs.Meaning.{Setting, answer}
use Rattle.store.specs.Settings.{chosen}
use Rattle.store.specs.Empty.{empty}
use Rattle.header_values.specs.Values.{roots_in}
use Rattle.header.specs.Header.{Header, HeaderAnswer, header, refusal, table_of, read_of}
use Rattle.imported.specs.Import.{lines_in}
use Rattle.node_lines.specs.Line.{Line}
use Rattle.node_lines.specs.Says.{says}
use Rattle.calls.specs.Load.{Load, Loaded, setup_for, load_of}
use Rattle.codes.specs.Answer.{value}
use Rattle.joined.specs.declared.Op.{Op}
use Rattle.joined.specs.Join.{apply}
use Rattle.joined.specs.Roots.{join_roots, opposite_root}
use Rattle.calls.specs.Calls.{Call, load, join, opposite}
use Rattle.calls.specs.Lists.{before}

-- what a root means: yes or no at each setting, or nothing where a file says nothing
abbrev pub Meaning : Type 0
Meaning = Setting → Option Bool

-- the numbers of a file's roots: the entries of its last `.rootids`
abbrev pub roots_of : List ℕ → List ℤ
roots_of f = roots_in f (table_of f)

-- The node lines of a file, as its own header leads to them. 'What a file's own lines say follows from its bytes, the level list and the
-- store's level count, never from the store's nodes.'
abbrev pub lines_under : List ℕ → List ℕ → ℕ → HeaderAnswer → List Line
lines_under f list levels (header h) = (lines_in (setup_for list levels h) f h.next).lines
lines_under f list levels (refusal n line) = []

abbrev pub node_lines_of : Limits → List ℕ → List ℕ → ℕ → List Line
node_lines_of m f list levels = lines_under f list levels (read_of m f)

-- a root that is there says what the lines say of it
abbrev pub root_says : List ℕ → List Line → Setting → Option ℤ → Option Bool
root_says list lines s none = none
root_says list lines s (some r) = says list lines s r

-- What a file says of the root at an entry of its `.rootids`, by a level list and a level count: by nothing else, and no load's answer.
abbrev pub file_says : Limits → List ℕ → List ℕ → ℕ → ℕ → Meaning
file_says m f list levels i s = root_says list (node_lines_of m f list levels) s (get_elem? (roots_of f) i)

-- what a load's file says of a root, at the levels that were named at this reading
abbrev pub load_says : Limits → Load → Store → ℕ → Meaning
load_says m c σ i = file_says m c.file c.list σ.levels i

-- in a store an edge has a meaning: it is one of the store's, and at every setting its answer is what is meant
pub record Means (τ : Store) (e : ℤ) (m : Meaning) : Type 0 where
  pub edge : EdgeOf τ e
  pub agrees : (s : Setting) → m s ≡ some (answer τ s e)

-- a root that a load has given for an entry of `.rootids`: it is there, and means what the file says
pub record RootGained (m : Limits) (c : Load) (σ : Store) (r : Loaded) (i : ℕ) : Type 0 where
  pub root : ℤ
  pub there : get_elem? r.roots i ≡ some root
  pub means : Means r.after root (load_says m c σ i)

-- What an accepted load leaves: a store that keeps the rules and has only grown; a root for each entry of the file's `.rootids`; and zeros
-- after them.
pub record Gains (m : Limits) (c : Load) (σ : Store) (r : Loaded) : Type 0 where
  pub rules : Rules m r.after
  pub grows : Grows σ r.after
  pub root : (i : ℕ) → i < length (roots_of c.file) → RootGained m c σ r i
  pub unused : (i : ℕ) → length (roots_of c.file) ≤ i → get_or r.roots i (pos 0) ≡ pos 0

-- 'At every setting the answer is that operation on the two answers'
abbrev pub join_says : Op → Store → ℤ → ℤ → Meaning
join_says o σ a b s = some (apply o (answer σ s a) (answer σ s b))

abbrev pub opposite_says : Store → ℤ → Meaning
opposite_says σ a s = some (not (answer σ s a))

-- A call on a store gives a root, with its meaning. 'A load is accepted where it answers no refusal ..; its roots belong to the entries of
-- `.rootids` in their order, and are compared as the load gave them.' Of a join and of an opposite, document 02, request 2: 'Roots made so are as
-- comparable as roots read from files'; they mean the operation on what their edges answer in the store at that call.
pub data Gives (m : Limits) : Call → Store → ℤ → Meaning → Type 0 where
  loaded : (c : Load) (σ : Store) (h : Header) (i : ℕ) (e : ℤ) → (load_of m c σ).answer ≡ header h → i < length (roots_of c.file)
      → get_elem? (load_of m c σ).roots i ≡ some e → Gives m (load c) σ e (load_says m c σ i)
  joined : (o : Op) (a b : ℤ) (σ : Store) (e : ℤ) → (join_roots m o σ a b).answer ≡ value e → Gives m (join o a b) σ e (join_says o σ a b)
  opposed : (a : ℤ) (σ : Store) (e : ℤ) → opposite_root m σ a ≡ value e → Gives m (opposite a) σ e (opposite_says σ a)

-- a call at a place of a list, counted from 0
pub data At : List Call → ℕ → Call → Type 0 where
  here : {c : Call} {cs : List Call} → At (c ∷ cs) 0 c
  later : {c d : Call} {cs : List Call} {k : ℕ} → At cs k c → At (d ∷ cs) (suc k) c

-- A root that a list of calls gave, from an empty store of so many levels and slots on.
pub record Root (m : Limits) (levels slots : ℕ) (cs : List Call) : Type 0 where
  pub place : ℕ
  pub call : Call
  pub at : At cs place call
  pub edge : ℤ
  pub meaning : Meaning
  pub given : Gives m call (before m (empty levels slots) cs place) edge meaning

-- both answer, and the same
abbrev pub SameAnswer : Option Bool → Option Bool → Type 0
SameAnswer x y = (b : Bool) × ((x ≡ some b) × (y ≡ some b))

-- the same answer at every setting of the store's levels
abbrev pub Alike : ℕ → Meaning → Meaning → Type 0
Alike levels m n = (s : List Bool) → length s ≡ levels → SameAnswer (m (chosen s)) (n (chosen s))
