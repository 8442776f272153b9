-- What the calls for C promise: what the calls of `dddmp` do, and the answer as C gets it.
use Rattle.std.specs.Prelude.{ℕ, ◌≡◌, Bool, List, length, replicate, ℤ, pos}
use Rattle.codes.specs.Answer.{Read}
use Rattle.codes.specs.Limits.{limits}
use Rattle.codes.specs.Lent.{Part, old, new}
use Rattle.store.specs.Store.{Store}
use Rattle.store.specs.Lent.{old_store, new_store}
use Rattle.example_walk.specs.Example.{example_of, left_setting}
use Rattle.example_walk.specs.Promises.{told}
use Rattle.tipping.specs.Tip.{tip_of}
use Rattle.exported.specs.Export.{ExportLeft}
use Rattle.joined.specs.declared.Op.{Op}
use Rattle.joined.specs.Roots.{join_roots, opposite_root}
use Rattle.store.specs.Make.{Made}
use Rattle.widened.specs.Widen.{NewLengths, lengths, widen_answer, widen_of}
use Rattle.exporter.specs.Promise.{export_leaves}
use Rattle.calls.specs.Load as calls
use Rattle.calls.specs.Load.{Parts, lengths_of, parts_of}
use Rattle.calls.specs.Calls.{evaluate_of}
use Rattle.dddmp.specs.Promises as dddmp
use Rattle.c_answers.specs.declared.LoadAnswer.{LoadAnswer}
use Rattle.c_answers.specs.declared.EvaluateAnswer.{EvaluateAnswer}
use Rattle.c_answers.specs.declared.ExampleAnswer.{ExampleAnswer}
use Rattle.c_answers.specs.declared.ExportAnswer.{ExportAnswer}
use Rattle.c_answers.specs.declared.JoinAnswer.{JoinAnswer}
use Rattle.c_answers.specs.declared.TipAnswer.{TipAnswer}
use Rattle.c_answers.specs.declared.WidenAnswer.{WidenAnswer}
use Rattle.c_answers.specs.Answers.{of_load_answer, of_evaluated, of_example, of_level, of_length, of_root, of_turn}
use Rattle.c_answers.specs.Settings.{settings_of, wanted_of}

module _ (file list : Part (List ℕ)) (levels : ℕ) (count : Part ℕ) (level : Part (List ℕ)) (then els : Part (List ℤ))
    (next heads ids order permids auxids names lens : Part (List ℕ)) (roots : Part (List ℤ)) (rootnames rootlens : Part (List ℕ))
    (edges : Part (List ℤ)) (seats : Part (List ℕ)) where
  -- the store, as the call starts and as it ends
  abbrev before : Store
  before = old_store levels (old count) level then els next heads

  abbrev after : Store
  after = new_store levels (new count) level then els next heads

  abbrev old_parts : Parts
  old_parts = dddmp.old_parts file list before after ids order permids auxids names lens roots rootnames rootlens edges seats

  abbrev new_parts : Parts
  new_parts = dddmp.new_parts file list before after ids order permids auxids names lens roots rootnames rootlens edges seats

  -- 'load gives 1 (lists), 3, 19 for the input's length, header, 1 (scratch), 2, nodes, 39'
  abbrev loaded : calls.Loaded
  loaded = dddmp.loaded file list before after ids order permids auxids names lens roots rootnames rootlens edges seats

  pub record ZtLoadPromise (work : Part (List ℕ)) (r : LoadAnswer) : Type 0 where
    -- 'A refusal is a number and a line.'
    pub answer : r ≡ of_load_answer loaded.answer
    -- 'On any refusal .. the store is unchanged'
    pub store : after ≡ loaded.after
    -- 'On any refusal outputs are all zeros ..; on success unused output is zero. Scratch ends as zeros.'
    pub lists : new_parts ≡ parts_of (lengths_of old_parts) loaded
    pub work_left : new work ≡ replicate (length (old work)) 0

pub record ZtEvaluatePromise (levels count : ℕ) (level : Part (List ℕ)) (then els : Part (List ℤ)) (next heads : Part (List ℕ)) (root : ℤ)
    (setting work : Part (List ℕ)) (r : EvaluateAnswer) : Type 0 where
  -- 'Evaluation gives 3, 4.'
  pub answer : r ≡ of_evaluated (evaluate_of limits root (old setting) (old_store levels count level then els next heads))
  -- 'Scratch ends as zeros.'
  pub work_left : new work ≡ replicate (length (old work)) 0

module _ (levels count : ℕ) (level : Part (List ℕ)) (then els : Part (List ℤ)) (next heads : Part (List ℕ)) (root : ℤ) (wanted : ℕ)
    (setting : Part (List ℕ)) where
  -- 'the call gives the first setting with that answer'; 1, 3, 4, 41; 'The wanted answer is a byte, yes unless it is 0.'
  abbrev found : Read (List Bool)
  found = example_of limits (old_store levels count level then els next heads) root (wanted_of wanted) (length (old setting))

  pub record ZtExamplePromise (work : Part (List ℕ)) (r : ExampleAnswer) : Type 0 where
    pub answer : r ≡ of_example (told found)
    -- 'On any refusal outputs are all zeros ..; on success unused output is zero.'
    pub setting_left : new setting ≡ left_setting (length (old setting)) found
    -- 'Scratch ends as zeros.'
    pub work_left : new work ≡ replicate (length (old work)) 0

pub record ZtTipPromise (levels count : ℕ) (level : Part (List ℕ)) (then els : Part (List ℤ)) (next heads : Part (List ℕ)) (root : ℤ)
    (setting work : Part (List ℕ)) (r : TipAnswer) : Type 0 where
  -- 'the lowest level whose flip alone turns the answer over'; 3, 4, 42
  pub answer : r ≡ of_level (tip_of limits (old_store levels count level then els next heads) root (old setting))
  -- 'Scratch ends as zeros.'
  pub work_left : new work ≡ replicate (length (old work)) 0

module _ (version text ddstart ddlen levels count : ℕ) (level : Part (List ℕ)) (then els : Part (List ℤ)) (next heads : Part (List ℕ))
    (roots : Part (List ℤ)) (order bytes starts lens rootstarts rootlens slots numbers out : Part (List ℕ)) where
  -- 'Export gives 1, 3, 4, 6, 5'; 'version 3.0 and text are each a byte that isn't 0'
  abbrev left : ExportLeft
  left =
      export_leaves (settings_of version text ddstart ddlen) (old_store levels count level then els next heads) roots order bytes starts lens
      rootstarts rootlens slots numbers out

  pub record ZtExportPromise (work : Part (List ℕ)) (r : ExportAnswer) : Type 0 where
    pub answer : r ≡ of_length left.answer
    -- 'On any refusal outputs are all zeros ..; on success unused output is zero.'
    pub out_left : new out ≡ left.out
    -- 'Scratch ends as zeros.'
    pub slots_left : new slots ≡ replicate (length (old slots)) 0
    pub numbers_left : new numbers ≡ replicate (length (old numbers)) 0
    pub work_left : new work ≡ replicate (length (old work)) 0

module _ (op : Op) (levels : ℕ) (count : Part ℕ) (level : Part (List ℕ)) (then els : Part (List ℤ)) (next heads : Part (List ℕ)) (left right : ℤ) where
  -- 'gives the root of their and, their or, or their exclusive or'; '3, 4, 40'
  abbrev joined : Made
  joined = join_roots limits op (old_store levels (old count) level then els next heads) left right

  pub record ZtJoinPromise (cache : Part (List ℤ)) (work : Part (List ℕ)) (r : JoinAnswer) : Type 0 where
    pub answer : r ≡ of_root joined.answer
    -- 'On any refusal .. the store is unchanged'
    pub store : new_store levels (new count) level then els next heads ≡ joined.after
    -- 'Scratch ends as zeros.'
    pub cache_left : new cache ≡ replicate (length (old cache)) (pos 0)
    pub work_left : new work ≡ replicate (length (old work)) 0

pub record ZtNotPromise (levels count : ℕ) (level : Part (List ℕ)) (then els : Part (List ℤ)) (next heads : Part (List ℕ)) (root : ℤ)
    (work : Part (List ℕ)) (r : JoinAnswer) : Type 0 where
  -- 'another gives the opposite of one root'; '3, 4'
  pub answer : r ≡ of_root (opposite_root limits (old_store levels count level then els next heads) root)
  -- 'Scratch ends as zeros.'
  pub work_left : new work ≡ replicate (length (old work)) 0

module _ (levels old_count : ℕ) (old_level : Part (List ℕ)) (old_then old_els : Part (List ℤ)) (old_next old_heads : Part (List ℕ)) (count : Part ℕ)
    (level : Part (List ℕ)) (then els : Part (List ℤ)) (next heads : Part (List ℕ)) where
  -- the old store, and the lengths of the lists for the new one
  abbrev pub given : Store
  given = old_store levels old_count old_level old_then old_els old_next old_heads

  abbrev pub lent : NewLengths
  lent = lengths (length (old level)) (length (old then)) (length (old els)) (length (old next)) (length (old heads))

  pub record ZtWidenPromise (work : Part (List ℕ)) (r : WidenAnswer) : Type 0 where
    -- 'slot lists unequal or shorter than the old count, or other than 256 heads, meet 1, before 3'
    pub answer : r ≡ of_turn (widen_answer lent given)
    -- 'a new one with its level count and every node, chain and root number kept'; 'On any refusal outputs are all zeros'
    pub store : new_store levels (new count) level then els next heads ≡ widen_of lent given
    -- 'Scratch ends as zeros.'
    pub work_left : new work ≡ replicate (length (old work)) 0
