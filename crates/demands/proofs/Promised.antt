-- One law for each public call: what its function promises is what `leaves` says of the call, so that the demands speak of the functions. A
-- list that is added to a call is a parameter of its promise, and so can't be forgotten here. `leaves` doesn't speak of work and cache: no answer
-- depends on them, and that they end as zeros each promise says itself.
use Prim.Native.Nat.{ℕ}
use mathlib.Core.Path.{◌≡◌, refl, sym, subst}
use mathlib.Core.Bool.{Bool}
use mathlib.Core.List.{List, [], ◌∷◌}
use lib.ListN.{length}
use lib.IntN.{ℤ}
use Rattle.codes.specs.Limits.{limits}
use Rattle.codes.specs.Answer.{Read, value, refused}
use Rattle.store.specs.Store.{Store}
use Rattle.codes.specs.Lent.{Part, old, new}
use Rattle.store.specs.Lent.{old_store, new_store}
use Rattle.std.specs.Prelude.{Result}
use Rattle.codes.specs.Refusals.{read_of}
use Rattle.codes.specs.declared.refusal.Refusal.{Refusal}
use Rattle.header.specs.Kinds.{Loaded, of_loaded}
use Rattle.header.specs.Header as head
use Rattle.example_walk.specs.Example.{example_of}
use Rattle.example_walk.specs.Promises.{told, ExamplePromise}
use Rattle.tipping.specs.Tip.{tip_of}
use Rattle.tipping.specs.Promises.{TipPromise}
use Rattle.exported.specs.Settings.{Settings}
use Rattle.exporter.specs.declared.ExportSettings.{ExportSettings}
use Rattle.exporter.specs.Promise.{exporting, export_leaves, ExportPromise}
use Rattle.exporter.specs.Settings.{of_settings}
use Rattle.calls.specs.Load.{Parts, load_into}
use Rattle.calls.specs.Calls.{Call, load, evaluate, example, tip, export, join, opposite, evaluate_of}
use Rattle.dddmp.specs.Promises.{old_parts, new_parts, loaded, LoadPromise, EvaluatePromise}
use Rattle.joined.specs.declared.Op.{Op}
use Rattle.joined.specs.Roots.{join_roots, opposite_root}
use Rattle.joins.specs.Promises.{JoinPromise, OppositePromise}
use Rattle.firmware.specs.Promises.{ZtLoadPromise, ZtEvaluatePromise, ZtExamplePromise, ZtTipPromise, ZtExportPromise, ZtJoinPromise, ZtNotPromise}
use Rattle.c_answers.specs.declared.LoadAnswer.{LoadAnswer}
use Rattle.c_answers.specs.declared.EvaluateAnswer.{EvaluateAnswer}
use Rattle.c_answers.specs.declared.ExampleAnswer.{ExampleAnswer}
use Rattle.c_answers.specs.declared.TipAnswer.{TipAnswer}
use Rattle.c_answers.specs.declared.ExportAnswer.{ExportAnswer}
use Rattle.c_answers.specs.declared.JoinAnswer.{JoinAnswer}
use Rattle.c_answers.specs.Settings.{settings_of, wanted_of}
use Rattle.c_answers.specs.Answers as C
use Rattle.calls.specs.Outcome as outcomes
use Rattle.calls.specs.Outcome.{Tells, Verdict, Outcome, outcome, verdict_of, verdict_read, outputs_of, scratch_of, leaves}

-- `dddmp::load`, from a store to another
module _ (f list : Part (List ℕ)) (before after : Store) (ids order permids auxids names lens : Part (List ℕ)) (roots : Part (List ℤ))
    (rootnames rootlens : Part (List ℕ)) (edges : Part (List ℤ)) (seats work : Part (List ℕ)) where
  -- the call, and the lists as it leaves them
  abbrev this : Call
  this =
      load
      (load_into (old f) (old list)
      (old_parts f list before after ids order permids auxids names lens roots rootnames rootlens edges seats))

  abbrev lists : Parts
  lists = new_parts f list before after ids order permids auxids names lens roots rootnames rootlens edges seats

  abbrev left : Verdict → Parts → Outcome
  left v q = outcome v after (outputs_of q) (scratch_of q)

  pub load-leaves : {r : Loaded}
      → LoadPromise f list before after ids order permids auxids names lens roots rootnames rootlens edges seats work r
      → leaves limits this before ≡ left (verdict_of (of_loaded r)) lists
  load-leaves {r} p = subst (λ q. leaves limits this before ≡ left (verdict_of (of_loaded r)) q) (sym p.lists) (rw (p.answer, p.store))

-- `zt_load`: number and line are those of the verdict
module _ (f list : Part (List ℕ)) (levels : ℕ) (count : Part ℕ) (level : Part (List ℕ)) (then els : Part (List ℤ))
    (next heads ids order permids auxids names lens : Part (List ℕ)) (roots : Part (List ℤ)) (rootnames rootlens : Part (List ℕ))
    (edges : Part (List ℤ)) (seats work : Part (List ℕ)) where
  -- the store as the call starts and as it leaves it
  abbrev before : Store
  before = old_store levels (old count) level then els next heads

  abbrev after : Store
  after = new_store levels (new count) level then els next heads

  abbrev loading : Call
  loading = this f list before after ids order permids auxids names lens roots rootnames rootlens edges seats work

  abbrev lists_left : Parts
  lists_left = lists f list before after ids order permids auxids names lens roots rootnames rootlens edges seats work

  abbrev load_left : Verdict → Parts → Outcome
  load_left = left f list before after ids order permids auxids names lens roots rootnames rootlens edges seats work

  zt-tells : (a : head.HeaderAnswer) → Tells (C.of_load_answer a).refusal (C.of_load_answer a).line (verdict_of a)
  zt-tells (head.header h) = (refl, refl)
  zt-tells (head.refusal n line) = (refl, refl)

  abbrev answered : head.HeaderAnswer
  answered = (loaded f list before after ids order permids auxids names lens roots rootnames rootlens edges seats).answer

  pub zt-load-leaves : {r : LoadAnswer}
      → ZtLoadPromise f list levels count level then els next heads ids order permids auxids names lens roots rootnames rootlens edges seats work r
      → (leaves limits loading before ≡ load_left (verdict_of answered) lists_left) × Tells r.refusal r.line (leaves limits loading before).verdict
  zt-load-leaves p = (
    subst (λ q. leaves limits loading before ≡ load_left (verdict_of answered) q) (sym p.lists) (rw p.store),
    rw p.answer (zt-tells answered),
  )

-- `dddmp::evaluate` and `dddmp::tip`
module _ (σ : Store) (root : ℤ) (setting work : Part (List ℕ)) where
  abbrev evaluating : Call
  evaluating = evaluate root (old setting)

  pub evaluate-leaves : {r : Result Bool Refusal} → EvaluatePromise σ root setting work r
      → leaves limits evaluating σ ≡ outcome (verdict_read (read_of r)) σ [] []
  evaluate-leaves p = rw p.answer

  abbrev tipping : Call
  tipping = tip root (old setting)

  pub tip-leaves : {r : Result ℕ Refusal} → TipPromise σ root setting work r
      → leaves limits tipping σ ≡ outcome (verdict_read (read_of r)) σ [] []
  tip-leaves p = rw p.answer

-- `zt_evaluate` and `zt_tip`
module _ (levels count : ℕ) (level : Part (List ℕ)) (then els : Part (List ℤ)) (next heads : Part (List ℕ)) (root : ℤ)
    (setting work : Part (List ℕ)) where
  abbrev read : Store
  read = old_store levels count level then els next heads

  zt-evaluated : (a : Read Bool) → Tells (C.of_evaluated a).refusal (C.of_evaluated a).line (verdict_read a)
  zt-evaluated (value b) = (refl, refl)
  zt-evaluated (refused n) = (refl, refl)

  pub zt-evaluate-leaves : {r : EvaluateAnswer} → ZtEvaluatePromise levels count level then els next heads root setting work r
      → (leaves limits (evaluate root (old setting)) read ≡ outcome (verdict_read (evaluate_of limits root (old setting) read)) read [] [])
      × Tells r.refusal r.line (leaves limits (evaluate root (old setting)) read).verdict
  zt-evaluate-leaves p = (refl, rw p.answer (zt-evaluated (evaluate_of limits root (old setting) read)))

  zt-tipped : (a : Read ℕ) → Tells (C.of_level a).refusal (C.of_level a).line (verdict_read a)
  zt-tipped (value l) = (refl, refl)
  zt-tipped (refused n) = (refl, refl)

  pub zt-tip-leaves : {r : TipAnswer} → ZtTipPromise levels count level then els next heads root setting work r
      → (leaves limits (tip root (old setting)) read ≡ outcome (verdict_read (tip_of limits read root (old setting))) read [] [])
      × Tells r.refusal r.line (leaves limits (tip root (old setting)) read).verdict
  zt-tip-leaves p = (refl, rw p.answer (zt-tipped (tip_of limits read root (old setting))))

-- an export by these settings, from a store, with everything that it is lent
module _ (s : Settings) (kept : Store) (roots : Part (List ℤ)) (order bytes starts lens rootstarts rootlens slots numbers out : Part (List ℕ)) where
  abbrev writing : Call
  writing = export (exporting s kept roots order bytes starts lens rootstarts rootlens slots numbers out)

  -- what it answers, and the lists as it leaves them
  abbrev leaving : Read ℕ → Outcome
  leaving a =
      outcome (verdict_read a) kept (outcomes.numbers (new out) ∷ []) (outcomes.numbers (new slots) ∷ outcomes.numbers (new numbers) ∷ [])

-- `dddmp::export`
module _ (settings : ExportSettings) (σ : Store) (roots : Part (List ℤ))
    (order bytes starts lens rootstarts rootlens slots numbers out work : Part (List ℕ)) where
  abbrev s : Settings
  s = of_settings settings

  pub export-leaves : {r : Result ℕ Refusal}
      → ExportPromise settings σ roots order bytes starts lens rootstarts rootlens slots numbers out work r
      → leaves limits (writing s σ roots order bytes starts lens rootstarts rootlens slots numbers out) σ
      ≡ leaving s σ roots order bytes starts lens rootstarts rootlens slots numbers out (read_of r)
  export-leaves p = rw (p.answer, p.out_left, p.slots_left, p.numbers_left)

-- `zt_export`
module _ (version text ddstart ddlen : ℕ) (levels count : ℕ) (level : Part (List ℕ)) (then els : Part (List ℤ)) (next heads : Part (List ℕ))
    (roots : Part (List ℤ)) (order bytes starts lens rootstarts rootlens slots numbers out work : Part (List ℕ)) where
  abbrev t : Settings
  t = settings_of version text ddstart ddlen

  abbrev from : Store
  from = old_store levels count level then els next heads

  abbrev answer : Read ℕ
  answer = (export_leaves t from roots order bytes starts lens rootstarts rootlens slots numbers out).answer

  zt-exported : (a : Read ℕ) → Tells (C.of_length a).refusal (C.of_length a).line (verdict_read a)
  zt-exported (value n) = (refl, refl)
  zt-exported (refused k) = (refl, refl)

  pub zt-export-leaves : {r : ExportAnswer}
      → ZtExportPromise version text ddstart ddlen levels count level then els next heads roots order bytes starts lens rootstarts rootlens slots
      numbers out work r
      → (leaves limits (writing t from roots order bytes starts lens rootstarts rootlens slots numbers out) from
      ≡ leaving t from roots order bytes starts lens rootstarts rootlens slots numbers out answer)
      × Tells r.refusal r.line (verdict_read answer)
  zt-export-leaves p = (rw (p.out_left, p.slots_left, p.numbers_left), rw p.answer (zt-exported answer))

-- an example from a store
told-verdict : (a : Read (List Bool)) → verdict_read (told a) ≡ verdict_read a
told-verdict (value s) = refl
told-verdict (refused n) = refl

zt-found : (a : Read (List Bool)) → Tells (C.of_example (told a)).refusal (C.of_example (told a)).line (verdict_read a)
zt-found (value s) = (refl, refl)
zt-found (refused n) = (refl, refl)

-- `dddmp::example`
module _ (σ : Store) (root : ℤ) (setting work : Part (List ℕ)) where
  pub example-leaves : {wanted : Bool} {r : Result Unit Refusal} → ExamplePromise σ root wanted setting work r
      → leaves limits (example root wanted (length (old setting))) σ ≡ outcome (verdict_read (read_of r)) σ (outcomes.numbers (new setting) ∷ []) []
  example-leaves {wanted} p = rw (p.answer, p.setting_left, told-verdict (example_of limits σ root wanted (length (old setting))))

-- `zt_example`
module _ (levels count : ℕ) (level : Part (List ℕ)) (then els : Part (List ℤ)) (next heads : Part (List ℕ)) (root : ℤ) (setting work : Part (List ℕ)) where
  abbrev ρ : Store
  ρ = old_store levels count level then els next heads

  pub zt-example-leaves : {wanted : ℕ} {r : ExampleAnswer} → ZtExamplePromise levels count level then els next heads root wanted setting work r
      → (leaves limits (example root (wanted_of wanted) (length (old setting))) ρ
      ≡ outcome (verdict_read (example_of limits ρ root (wanted_of wanted) (length (old setting)))) ρ (outcomes.numbers (new setting) ∷ []) [])
      × Tells r.refusal r.line (leaves limits (example root (wanted_of wanted) (length (old setting))) ρ).verdict
  zt-example-leaves {wanted} p = (rw p.setting_left, rw p.answer (zt-found (example_of limits ρ root (wanted_of wanted) (length (old setting)))))

-- number and line of a join's and an opposite's answer in C
zt-rooted : (a : Read ℤ) → Tells (C.of_root a).refusal (C.of_root a).line (verdict_read a)
zt-rooted (value x) = (refl, refl)
zt-rooted (refused n) = (refl, refl)

-- `dddmp::join`, from a store to another, and `dddmp::opposite`
module _ (σ τ : Store) (o : Op) (a b : ℤ) (cache : Part (List ℤ)) (work : Part (List ℕ)) where
  pub join-leaves : {r : Result ℤ Refusal} → JoinPromise σ τ o a b cache work r
      → leaves limits (join o a b) σ ≡ outcome (verdict_read (read_of r)) τ [] []
  join-leaves p = rw (p.answer, p.store)

  pub opposite-leaves : {r : Result ℤ Refusal} → OppositePromise σ a work r
      → leaves limits (opposite a) σ ≡ outcome (verdict_read (read_of r)) σ [] []
  opposite-leaves p = rw p.answer

-- `zt_and`, `zt_or` and `zt_xor`
module _ (levels : ℕ) (count : Part ℕ) (level : Part (List ℕ)) (then els : Part (List ℤ)) (next heads : Part (List ℕ)) (o : Op) (a b : ℤ)
    (cache : Part (List ℤ)) (work : Part (List ℕ)) where
  abbrev unjoined : Store
  unjoined = old_store levels (old count) level then els next heads

  abbrev joined : Store
  joined = new_store levels (new count) level then els next heads

  pub zt-join-leaves : {r : JoinAnswer} → ZtJoinPromise o levels count level then els next heads a b cache work r
      → (leaves limits (join o a b) unjoined ≡ outcome (verdict_read (join_roots limits o unjoined a b).answer) joined [] [])
      × Tells r.refusal r.line (leaves limits (join o a b) unjoined).verdict
  zt-join-leaves p = (rw p.store, rw p.answer (zt-rooted (join_roots limits o unjoined a b).answer))

-- `zt_not`
module _ (levels count : ℕ) (level : Part (List ℕ)) (then els : Part (List ℤ)) (next heads : Part (List ℕ)) (root : ℤ) (work : Part (List ℕ)) where
  abbrev υ : Store
  υ = old_store levels count level then els next heads

  pub zt-not-leaves : {r : JoinAnswer} → ZtNotPromise levels count level then els next heads root work r
      → (leaves limits (opposite root) υ ≡ outcome (verdict_read (opposite_root limits υ root)) υ [] [])
      × Tells r.refusal r.line (leaves limits (opposite root) υ).verdict
  zt-not-leaves p = (refl, rw p.answer (zt-rooted (opposite_root limits υ root)))
