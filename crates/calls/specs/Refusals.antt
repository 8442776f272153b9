-- How calls are refused: with which number, and at which line, in the words of the rules that are broken. Document 01, 'Answers, by who can
-- cause them': 'The line counts from 1 at the top of the file, or is 0 where marked °, in every check made after `.nodes`' line, in binary
-- nodes, and in every call that reads no file. ASCII node lines carry theirs, but for 30 and 40.' And: 'Order: load gives 1 (lists), 3, 19
-- for the input's length, header, 1 (scratch), 2, nodes, 39. Export gives 1, 3, 4, 6, 5. Evaluation gives 3, 4.'
use Rattle.std.specs.Prelude.{ℕ, ◌≤◌, ◌<◌, ◌≡◌, ◌⊎◌, Bool, List, length, ℤ}
use Rattle.codes.specs.Limits.{Limits, var_limit, root_limit}
use Rattle.read_lines.specs.Each.{Each}
use Rattle.header_lines.specs.Sweep.{lines_of}
use Rattle.header_lines.specs.SoundLines.{SoundLines, RefusedLines, cut_short, faulty}
use Rattle.header_checks.specs.Whole.{whole_fault}
use Rattle.header_checks.specs.WholeRules.{WholeRules}
use Rattle.support.specs.Support.{IdsAllowed}
use Rattle.store.specs.Store.{Store}
use Rattle.store.specs.Rules.{Rules}
use Rattle.store.specs.Growth.{EdgeOf}
use Rattle.store.specs.Meaning.{setting_of}
use Rattle.store.specs.Settings.{IsSetting}
use Rattle.header.specs.Header.{Header, table_of}
use Rattle.header.specs.HeaderSaid.{HeaderSaid}
use Rattle.imported.specs.Import.{Setup}
use Rattle.imported.specs.Refused.{NodesRefused, crowded, early, text, binary, unended}
use Rattle.calls.specs.Load.{Lengths, Load, variable_lists, root_lists, setup_of}
use Rattle.example_walk.specs.Example.{answers_as}
use Rattle.example_walk.specs.First.{NoneIs}
use Rattle.tipping.specs.Tip.{tips}
use Rattle.tipping.specs.Lowest.{NoneBelow}
use Rattle.joined.specs.declared.Op.{Op}
use Rattle.joined.specs.Join.{Ready}
use Rattle.joined.specs.Room.{JoinFits}
use Rattle.calls.specs.Calls.{Call, load, evaluate, example, tip, export, join, opposite}

-- the numbers of documents 01 and 02: 1 to 6, 10 to 26, and 30 to 41; 0 is none of them
abbrev pub RefusalNumber : ℕ → Type 0
RefusalNumber n = ((1 ≤ n) × (n ≤ 6)) ⊎ (((10 ≤ n) × (n ≤ 26)) ⊎ ((30 ≤ n) × (n ≤ 41)))

-- the numbers that a call may be refused with: a tipping point's are one more. Document 02, request 6: 'Errors: 42, no single flip does'
abbrev pub NumberOf : Call → ℕ → Type 0
NumberOf (load c) n = RefusalNumber n
NumberOf (evaluate e s) n = RefusalNumber n
NumberOf (example e wanted long) n = RefusalNumber n
NumberOf (tip e s) n = RefusalNumber n ⊎ (n ≡ 42)
NumberOf (export x) n = RefusalNumber n
NumberOf (join o a b) n = RefusalNumber n
NumberOf (opposite a) n = RefusalNumber n

-- '4,096 entries for each variable list, 1,024 for each root list'
pub record LongLists (l : Lengths) : Type 0 where
  pub variables : Each (λ n. var_limit ≤ n) (variable_lists l)
  pub roots : Each (λ n. root_limit ≤ n) (root_lists l)

-- nothing is refused before the header
pub record Opened (m : Limits) (c : Load) (σ : Store) : Type 0 where
  pub lists : LongLists c.lent
  pub rules : Rules m σ
  pub short : length c.file ≤ m.input

-- nothing is refused of the header, which is this one
pub record HeaderRead (m : Limits) (c : Load) (σ : Store) (h : Header) : Type 0 where
  pub opened : Opened m c σ
  pub sound : SoundLines c.file (lines_of c.file) h.next h.lines
  pub whole : WholeRules m c.file (table_of c.file)
  pub said : HeaderSaid c.file h

-- '`.nnodes` for node scratch'
pub record LongScratch (c : Load) (h : Header) : Type 0 where
  pub edges : h.nnodes ≤ c.lent.edges
  pub seats : h.nnodes ≤ c.lent.seats

-- 'one level per support variable, strictly ascending, below the store's level count'
pub record ListAllowed (c : Load) (σ : Store) (h : Header) : Type 0 where
  pub counted : length c.list ≡ h.nsuppvars
  pub levels : IdsAllowed σ.levels c.list

-- How a load is refused. Each case has what was not refused before it, and the line that it carries: only a line of the header, and an ASCII
-- node line, has another than 0.
pub data LoadRefused (m : Limits) (c : Load) (σ : Store) : ℕ → ℕ → Type 0 where
  -- '1 (lists)'
  lists_short : (LongLists c.lent → ⊥) → LoadRefused m c σ 1 0
  -- '3 the store breaks its rules'
  store_broken : LongLists c.lent → (Rules m σ → ⊥) → LoadRefused m c σ 3 0
  -- '19 for the input's length': 'line 0, before all reading'
  input_long : LongLists c.lent → Rules m σ → m.input < length c.file → LoadRefused m c σ 19 0
  -- 'The file's writer, line by line': '10°', or the first line with a fault
  line_refused : {n line : ℕ} → Opened m c σ → RefusedLines c.file (lines_of c.file) n line → LoadRefused m c σ n line
  -- 'The file's writer, header as a whole', 'made after `.nodes`' line'
  whole_refused : {n next lines : ℕ} → Opened m c σ → SoundLines c.file (lines_of c.file) next lines
      → whole_fault m c.file (table_of c.file) ≡ n → 1 ≤ n → LoadRefused m c σ n 0
  -- '1 (scratch)'
  scratch_short : {h : Header} → HeaderRead m c σ h → (LongScratch c h → ⊥) → LoadRefused m c σ 1 0
  -- '2'
  list_refused : {h : Header} → HeaderRead m c σ h → LongScratch c h → (ListAllowed c σ h → ⊥) → LoadRefused m c σ 2 0
  -- 'nodes, 39'
  nodes_refused : {h : Header} {n line : ℕ} → HeaderRead m c σ h → LongScratch c h → ListAllowed c σ h
      → NodesRefused m (setup_of c σ.levels h) σ c.file h.next n line → LoadRefused m c σ n line

-- the refusals of the nodes that carry a line: of an ASCII node line 'but for 30 and 40'
abbrev pub NodesCarryLine : {m : Limits} {u : Setup} {σ : Store} {f : List ℕ} {at n line : ℕ} → NodesRefused m u σ f at n line → Type 0
NodesCarryLine (crowded w) = ⊥
NodesCarryLine (early r a e) = ⊥
NodesCarryLine (text r a e k t i l) = Unit
NodesCarryLine (binary r a e k) = ⊥
NodesCarryLine (unended r e w) = ⊥

-- the refusals of a load that carry a line: of a line of the header, and of an ASCII node line 'but for 30 and 40'
abbrev pub CarriesLine : {m : Limits} {c : Load} {σ : Store} {n line : ℕ} → LoadRefused m c σ n line → Type 0
CarriesLine (lists_short w) = ⊥
CarriesLine (store_broken L w) = ⊥
CarriesLine (input_long L R w) = ⊥
CarriesLine (line_refused O (cut_short e s)) = ⊥
CarriesLine (line_refused O (faulty before s after e b q k)) = Unit
CarriesLine (whole_refused O s q k) = ⊥
CarriesLine (scratch_short H w) = ⊥
CarriesLine (list_refused H S w) = ⊥
CarriesLine (nodes_refused H S L w) = NodesCarryLine w

-- How a join is refused. Document 02, request 2: 'in the order 3, 4, 40, and 40 only where those nodes don't fit'.
pub data JoinRefused (m : Limits) (o : Op) (σ : Store) (a b : ℤ) : ℕ → Type 0 where
  join_broken : (Rules m σ → ⊥) → JoinRefused m o σ a b 3
  root_bad : Rules m σ → ((EdgeOf σ a × EdgeOf σ b) → ⊥) → JoinRefused m o σ a b 4
  join_crowded : Ready m σ a b → (JoinFits m o σ a b → ⊥) → JoinRefused m o σ a b 40

-- How an opposite is refused, by the same rules: 3, then 4.
pub data OppositeRefused (m : Limits) (σ : Store) (a : ℤ) : ℕ → Type 0 where
  opposite_broken : (Rules m σ → ⊥) → OppositeRefused m σ a 3
  opposite_bad : Rules m σ → (EdgeOf σ a → ⊥) → OppositeRefused m σ a 4

-- How an example is refused. Document 02, request 4: 'A lent setting shorter than the levels meets 1, before 3. Errors: 41, no setting gives the wanted
-- answer, after 3 and 4.'
pub data ExampleRefused (m : Limits) (e : ℤ) (wanted : Bool) (long : ℕ) (σ : Store) : ℕ → Type 0 where
  setting_short : long < σ.levels → ExampleRefused m e wanted long σ 1
  example_broken : σ.levels ≤ long → (Rules m σ → ⊥) → ExampleRefused m e wanted long σ 3
  example_bad : σ.levels ≤ long → Rules m σ → (EdgeOf σ e → ⊥) → ExampleRefused m e wanted long σ 4
  no_setting : σ.levels ≤ long → Rules m σ → EdgeOf σ e → NoneIs (answers_as σ e wanted) σ.levels → ExampleRefused m e wanted long σ 41

-- How a tipping point is refused. Document 02, request 6: 'Errors: 42, no single flip does, after 3 and 4.'
pub data TipRefused (m : Limits) (e : ℤ) (s : List ℕ) (σ : Store) : ℕ → Type 0 where
  tip_broken : (Rules m σ → ⊥) → TipRefused m e s σ 3
  tip_bad : Rules m σ → ((EdgeOf σ e × IsSetting σ s) → ⊥) → TipRefused m e s σ 4
  no_flip : Rules m σ → EdgeOf σ e → IsSetting σ s → NoneBelow (tips σ e (setting_of s)) σ.levels → TipRefused m e s σ 42

-- how each call is refused: the line is 0 'in every call that reads no file'
abbrev pub RefusedFor : Limits → Call → Store → ℕ → ℕ → Type 0
RefusedFor m (load c) σ n line = LoadRefused m c σ n line
RefusedFor m (evaluate e s) σ n line = ((n ≡ 3) ⊎ (n ≡ 4)) × (line ≡ 0)
RefusedFor m (example e wanted long) σ n line = ExampleRefused m e wanted long σ n × (line ≡ 0)
RefusedFor m (tip e s) σ n line = TipRefused m e s σ n × (line ≡ 0)
RefusedFor m (export x) σ n line = ((n ≡ 1) ⊎ ((3 ≤ n) × (n ≤ 6))) × (line ≡ 0)
RefusedFor m (join o a b) σ n line = JoinRefused m o σ a b n × (line ≡ 0)
RefusedFor m (opposite a) σ n line = OppositeRefused m σ a n × (line ≡ 0)
