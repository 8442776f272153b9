-- The promises that `Promised` speaks of are the functions' own: what the `ensures` of a public call says, word for word. A list that is added
-- to a call changes the type of these laws.
use borrow.Fn.Kinds.{Dens, ended_of}
use contract.Lifetimes.{Lfts}
use Rattle.std.specs.Borrow.{Bor, MutBor}
use denote.Triple.Clauses.{AtExit}
use Rattle.codes.specs.Lent.{Part}
use Rattle.std.specs.Prelude.{ℕ, ℤ, Bool, Result}
use Rattle.codes.specs.declared.refusal.Refusal.{Refusal}
use Rattle.store.specs.Held.{held, held_mut, SameLists}
use Rattle.old_stores.specs.Promises.{held_old}
use Rattle.header.specs.Kinds.{Loaded}
use Rattle.example_walk.specs.Promises.{ExamplePromise}
use Rattle.tipping.specs.Promises.{TipPromise}
use Rattle.exporter.specs.Promise.{ExportPromise}
use Rattle.joined.specs.declared.Op.TheVariants as op
use Rattle.joins.specs.Promises.{JoinPromise, OppositePromise}
use Rattle.widening.specs.Promises.{WidenPromise}
use Rattle.dddmp.specs.Promises.{LoadPromise, EvaluatePromise}
use Rattle.dddmp.proofs.load.Reads as load
use Rattle.dddmp.proofs.load.Kinds as load-kinds
use Rattle.dddmp.proofs.evaluate.Reads as evaluate
use Rattle.dddmp.proofs.evaluate.Kinds as evaluate-kinds
use Rattle.dddmp.proofs.example.Reads as example
use Rattle.dddmp.proofs.example.Kinds as example-kinds
use Rattle.dddmp.proofs.tip.Reads as tip
use Rattle.dddmp.proofs.tip.Kinds as tip-kinds
use Rattle.dddmp.proofs.export.Reads as export
use Rattle.dddmp.proofs.export.Kinds as export-kinds
use Rattle.dddmp.proofs.join.Reads as join
use Rattle.dddmp.proofs.join.Kinds as join-kinds
use Rattle.dddmp.proofs.opposite.Reads as opposite
use Rattle.dddmp.proofs.opposite.Kinds as opposite-kinds
use Rattle.dddmp.proofs.widen.Reads as widen
use Rattle.dddmp.proofs.widen.Kinds as widen-kinds
use Rattle.firmware.specs.Promises.{ZtLoadPromise, ZtEvaluatePromise, ZtExamplePromise, ZtTipPromise, ZtExportPromise, ZtJoinPromise, ZtNotPromise}
use Rattle.firmware.specs.Promises.{ZtWidenPromise}
use Rattle.c_answers.specs.declared.LoadAnswer.{LoadAnswer}
use Rattle.c_answers.specs.declared.EvaluateAnswer.{EvaluateAnswer}
use Rattle.c_answers.specs.declared.ExampleAnswer.{ExampleAnswer}
use Rattle.c_answers.specs.declared.TipAnswer.{TipAnswer}
use Rattle.c_answers.specs.declared.ExportAnswer.{ExportAnswer}
use Rattle.c_answers.specs.declared.JoinAnswer.{JoinAnswer}
use Rattle.c_answers.specs.declared.WidenAnswer.{WidenAnswer}
use Rattle.firmware.proofs.zt2_load.Reads as zt-load
use Rattle.firmware.proofs.zt2_load.Kinds as zt-load-kinds
use Rattle.firmware.proofs.zt2_evaluate.Reads as zt-evaluate
use Rattle.firmware.proofs.zt2_evaluate.Kinds as zt-evaluate-kinds
use Rattle.firmware.proofs.zt2_example.Reads as zt-example
use Rattle.firmware.proofs.zt2_example.Kinds as zt-example-kinds
use Rattle.firmware.proofs.zt2_tip.Reads as zt-tip
use Rattle.firmware.proofs.zt2_tip.Kinds as zt-tip-kinds
use Rattle.firmware.proofs.zt2_export.Reads as zt-export
use Rattle.firmware.proofs.zt2_export.Kinds as zt-export-kinds
use Rattle.firmware.proofs.zt2_and.Reads as zt-and
use Rattle.firmware.proofs.zt2_and.Kinds as zt-and-kinds
use Rattle.firmware.proofs.zt2_or.Reads as zt-or
use Rattle.firmware.proofs.zt2_or.Kinds as zt-or-kinds
use Rattle.firmware.proofs.zt2_xor.Reads as zt-xor
use Rattle.firmware.proofs.zt2_xor.Kinds as zt-xor-kinds
use Rattle.firmware.proofs.zt2_not.Reads as zt-not
use Rattle.firmware.proofs.zt2_not.Kinds as zt-not-kinds
use Rattle.firmware.proofs.zt2_widen.Reads as zt-widen
use Rattle.firmware.proofs.zt2_widen.Kinds as zt-widen-kinds

-- a part as it is lent, and as the call leaves it: one that is only read, and one that may be written
abbrev part : {X : Type 0} → Bor X → Bor X → Part X
part e x = record { at_start = e.now; at_end = x.now }

abbrev part_mut : {X : Type 0} → MutBor X → MutBor X → Part X
part_mut e x = record { at_start = e.now; at_end = x.now }

module _ (κs : Lfts 16) (a : Dens κs load-kinds.ps) (r : Loaded) (s : AtExit (ended_of 16 load-kinds.ps load-kinds.r) κs) where
  pub load-promises : load.Post κs a r s
      → (LoadPromise
      (part a.0 s.0)
      (part a.1.0 s.1.0)
      (held_mut a.1.1.0.now)
      (held_mut s.1.1.0.now)
      (part_mut a.1.1.1.0 s.1.1.1.0)
      (part_mut a.1.1.1.1.0 s.1.1.1.1.0)
      (part_mut a.1.1.1.1.1.0 s.1.1.1.1.1.0)
      (part_mut a.1.1.1.1.1.1.0 s.1.1.1.1.1.1.0)
      (part_mut a.1.1.1.1.1.1.1.0 s.1.1.1.1.1.1.1.0)
      (part_mut a.1.1.1.1.1.1.1.1.0 s.1.1.1.1.1.1.1.1.0)
      (part_mut a.1.1.1.1.1.1.1.1.1.0 s.1.1.1.1.1.1.1.1.1.0)
      (part_mut a.1.1.1.1.1.1.1.1.1.1.0 s.1.1.1.1.1.1.1.1.1.1.0)
      (part_mut a.1.1.1.1.1.1.1.1.1.1.1.0 s.1.1.1.1.1.1.1.1.1.1.1.0)
      (part_mut a.1.1.1.1.1.1.1.1.1.1.1.1.0 s.1.1.1.1.1.1.1.1.1.1.1.1.0)
      (part_mut a.1.1.1.1.1.1.1.1.1.1.1.1.1.0 s.1.1.1.1.1.1.1.1.1.1.1.1.1.0)
      (part_mut a.1.1.1.1.1.1.1.1.1.1.1.1.1.1.0 s.1.1.1.1.1.1.1.1.1.1.1.1.1.1.0)
      r)
      × SameLists a.1.1.0.now s.1.1.0.now
  load-promises p = (p.1, p.0)

module _ (κs : Lfts 4) (a : Dens κs evaluate-kinds.ps) (r : Result Bool Refusal) (s : AtExit (ended_of 4 evaluate-kinds.ps evaluate-kinds.r) κs) where
  pub evaluate-promises : evaluate.Post κs a r s
      → EvaluatePromise
      (held a.0.now)
      a.1.0
      (part a.1.1.0 s.1.1.0)
      (part_mut a.1.1.1.0 s.1.1.1.0)
      r
  evaluate-promises p = p

module _ (κs : Lfts 4) (a : Dens κs tip-kinds.ps) (r : Result ℕ Refusal) (s : AtExit (ended_of 4 tip-kinds.ps tip-kinds.r) κs) where
  pub tip-promises : tip.Post κs a r s
      → TipPromise
      (held a.0.now)
      a.1.0
      (part a.1.1.0 s.1.1.0)
      (part_mut a.1.1.1.0 s.1.1.1.0)
      r
  tip-promises p = p

module _ (κs : Lfts 13) (a : Dens κs export-kinds.ps) (r : Result ℕ Refusal) (s : AtExit (ended_of 13 export-kinds.ps export-kinds.r) κs) where
  pub export-promises : export.Post κs a r s
      → ExportPromise
      a.0
      (held a.1.0.now)
      (part a.1.1.0 s.1.1.0)
      (part a.1.1.1.0 s.1.1.1.0)
      (part a.1.1.1.1.0 s.1.1.1.1.0)
      (part a.1.1.1.1.1.0 s.1.1.1.1.1.0)
      (part a.1.1.1.1.1.1.0 s.1.1.1.1.1.1.0)
      (part a.1.1.1.1.1.1.1.0 s.1.1.1.1.1.1.1.0)
      (part a.1.1.1.1.1.1.1.1.0 s.1.1.1.1.1.1.1.1.0)
      (part_mut a.1.1.1.1.1.1.1.1.1.0 s.1.1.1.1.1.1.1.1.1.0)
      (part_mut a.1.1.1.1.1.1.1.1.1.1.0 s.1.1.1.1.1.1.1.1.1.1.0)
      (part_mut a.1.1.1.1.1.1.1.1.1.1.1.0 s.1.1.1.1.1.1.1.1.1.1.1.0)
      (part_mut a.1.1.1.1.1.1.1.1.1.1.1.1.0 s.1.1.1.1.1.1.1.1.1.1.1.1.0)
      r
  export-promises p = p

module _ (κs : Lfts 4) (a : Dens κs join-kinds.ps) (r : Result ℤ Refusal) (s : AtExit (ended_of 4 join-kinds.ps join-kinds.r) κs) where
  pub join-promises : join.Post κs a r s
      → (JoinPromise
      (held_mut a.0.now)
      (held_mut s.0.now)
      a.1.0
      a.1.1.0
      a.1.1.1.0
      (part_mut a.1.1.1.1.0 s.1.1.1.1.0)
      (part_mut a.1.1.1.1.1.0 s.1.1.1.1.1.0)
      r)
      × SameLists a.0.now s.0.now
  join-promises p = (p.1, p.0)

module _ (κs : Lfts 4) (a : Dens κs example-kinds.ps) (r : Result Unit Refusal) (s : AtExit (ended_of 4 example-kinds.ps example-kinds.r) κs) where
  pub example-promises : example.Post κs a r s
      → ExamplePromise
      (held a.0.now)
      a.1.0
      a.1.1.0
      (part_mut a.1.1.1.0 s.1.1.1.0)
      (part_mut a.1.1.1.1.0 s.1.1.1.1.0)
      r
  example-promises p = p

module _ (κs : Lfts 3) (a : Dens κs opposite-kinds.ps) (r : Result ℤ Refusal) (s : AtExit (ended_of 3 opposite-kinds.ps opposite-kinds.r) κs) where
  pub opposite-promises : opposite.Post κs a r s
      → OppositePromise
      (held a.0.now)
      a.1.0
      (part_mut a.1.1.0 s.1.1.0)
      r
  opposite-promises p = p

module _ (κs : Lfts 5) (a : Dens κs widen-kinds.ps) (r : Result Unit Refusal) (s : AtExit (ended_of 5 widen-kinds.ps widen-kinds.r) κs) where
  pub widen-promises : widen.Post κs a r s
      → (WidenPromise
      (held_old a.0.now)
      (held_mut a.1.0.now)
      (held_mut s.1.0.now)
      (part_mut a.1.1.0 s.1.1.0)
      r)
      × SameLists a.1.0.now s.1.0.now
  widen-promises p = (p.1, p.0)

module _ (κs : Lfts 20) (a : Dens κs zt-load-kinds.ps) (r : LoadAnswer) (s : AtExit (ended_of 20 zt-load-kinds.ps zt-load-kinds.r) κs) where
  pub zt-load-promises : zt-load.Post κs a r s
      → ZtLoadPromise
      (part a.0 s.0)
      (part a.1.0 s.1.0)
      a.1.1.0
      (part_mut a.1.1.1.0 s.1.1.1.0)
      (part_mut a.1.1.1.1.0 s.1.1.1.1.0)
      (part_mut a.1.1.1.1.1.0 s.1.1.1.1.1.0)
      (part_mut a.1.1.1.1.1.1.0 s.1.1.1.1.1.1.0)
      (part_mut a.1.1.1.1.1.1.1.0 s.1.1.1.1.1.1.1.0)
      (part_mut a.1.1.1.1.1.1.1.1.0 s.1.1.1.1.1.1.1.1.0)
      (part_mut a.1.1.1.1.1.1.1.1.1.0 s.1.1.1.1.1.1.1.1.1.0)
      (part_mut a.1.1.1.1.1.1.1.1.1.1.0 s.1.1.1.1.1.1.1.1.1.1.0)
      (part_mut a.1.1.1.1.1.1.1.1.1.1.1.0 s.1.1.1.1.1.1.1.1.1.1.1.0)
      (part_mut a.1.1.1.1.1.1.1.1.1.1.1.1.0 s.1.1.1.1.1.1.1.1.1.1.1.1.0)
      (part_mut a.1.1.1.1.1.1.1.1.1.1.1.1.1.0 s.1.1.1.1.1.1.1.1.1.1.1.1.1.0)
      (part_mut a.1.1.1.1.1.1.1.1.1.1.1.1.1.1.0 s.1.1.1.1.1.1.1.1.1.1.1.1.1.1.0)
      (part_mut a.1.1.1.1.1.1.1.1.1.1.1.1.1.1.1.0 s.1.1.1.1.1.1.1.1.1.1.1.1.1.1.1.0)
      (part_mut a.1.1.1.1.1.1.1.1.1.1.1.1.1.1.1.1.0 s.1.1.1.1.1.1.1.1.1.1.1.1.1.1.1.1.0)
      (part_mut a.1.1.1.1.1.1.1.1.1.1.1.1.1.1.1.1.1.0 s.1.1.1.1.1.1.1.1.1.1.1.1.1.1.1.1.1.0)
      (part_mut a.1.1.1.1.1.1.1.1.1.1.1.1.1.1.1.1.1.1.0 s.1.1.1.1.1.1.1.1.1.1.1.1.1.1.1.1.1.1.0)
      (part_mut a.1.1.1.1.1.1.1.1.1.1.1.1.1.1.1.1.1.1.1.0 s.1.1.1.1.1.1.1.1.1.1.1.1.1.1.1.1.1.1.1.0)
      (part_mut a.1.1.1.1.1.1.1.1.1.1.1.1.1.1.1.1.1.1.1.1.0 s.1.1.1.1.1.1.1.1.1.1.1.1.1.1.1.1.1.1.1.1.0)
      r
  zt-load-promises p = p

module _ (κs : Lfts 7) (a : Dens κs zt-evaluate-kinds.ps) (r : EvaluateAnswer) (s : AtExit (ended_of 7 zt-evaluate-kinds.ps zt-evaluate-kinds.r) κs) where
  pub zt-evaluate-promises : zt-evaluate.Post κs a r s
      → ZtEvaluatePromise
      a.0
      a.1.0
      (part a.1.1.0 s.1.1.0)
      (part a.1.1.1.0 s.1.1.1.0)
      (part a.1.1.1.1.0 s.1.1.1.1.0)
      (part a.1.1.1.1.1.0 s.1.1.1.1.1.0)
      (part a.1.1.1.1.1.1.0 s.1.1.1.1.1.1.0)
      a.1.1.1.1.1.1.1.0
      (part a.1.1.1.1.1.1.1.1.0 s.1.1.1.1.1.1.1.1.0)
      (part_mut a.1.1.1.1.1.1.1.1.1.0 s.1.1.1.1.1.1.1.1.1.0)
      r
  zt-evaluate-promises p = p

module _ (κs : Lfts 7) (a : Dens κs zt-tip-kinds.ps) (r : TipAnswer) (s : AtExit (ended_of 7 zt-tip-kinds.ps zt-tip-kinds.r) κs) where
  pub zt-tip-promises : zt-tip.Post κs a r s
      → ZtTipPromise
      a.0
      a.1.0
      (part a.1.1.0 s.1.1.0)
      (part a.1.1.1.0 s.1.1.1.0)
      (part a.1.1.1.1.0 s.1.1.1.1.0)
      (part a.1.1.1.1.1.0 s.1.1.1.1.1.0)
      (part a.1.1.1.1.1.1.0 s.1.1.1.1.1.1.0)
      a.1.1.1.1.1.1.1.0
      (part a.1.1.1.1.1.1.1.1.0 s.1.1.1.1.1.1.1.1.0)
      (part_mut a.1.1.1.1.1.1.1.1.1.0 s.1.1.1.1.1.1.1.1.1.0)
      r
  zt-tip-promises p = p

module _ (κs : Lfts 16) (a : Dens κs zt-export-kinds.ps) (r : ExportAnswer) (s : AtExit (ended_of 16 zt-export-kinds.ps zt-export-kinds.r) κs) where
  pub zt-export-promises : zt-export.Post κs a r s
      → ZtExportPromise
      a.0
      a.1.0
      a.1.1.0
      a.1.1.1.0
      a.1.1.1.1.0
      a.1.1.1.1.1.0
      (part a.1.1.1.1.1.1.0 s.1.1.1.1.1.1.0)
      (part a.1.1.1.1.1.1.1.0 s.1.1.1.1.1.1.1.0)
      (part a.1.1.1.1.1.1.1.1.0 s.1.1.1.1.1.1.1.1.0)
      (part a.1.1.1.1.1.1.1.1.1.0 s.1.1.1.1.1.1.1.1.1.0)
      (part a.1.1.1.1.1.1.1.1.1.1.0 s.1.1.1.1.1.1.1.1.1.1.0)
      (part a.1.1.1.1.1.1.1.1.1.1.1.0 s.1.1.1.1.1.1.1.1.1.1.1.0)
      (part a.1.1.1.1.1.1.1.1.1.1.1.1.0 s.1.1.1.1.1.1.1.1.1.1.1.1.0)
      (part a.1.1.1.1.1.1.1.1.1.1.1.1.1.0 s.1.1.1.1.1.1.1.1.1.1.1.1.1.0)
      (part a.1.1.1.1.1.1.1.1.1.1.1.1.1.1.0 s.1.1.1.1.1.1.1.1.1.1.1.1.1.1.0)
      (part a.1.1.1.1.1.1.1.1.1.1.1.1.1.1.1.0 s.1.1.1.1.1.1.1.1.1.1.1.1.1.1.1.0)
      (part a.1.1.1.1.1.1.1.1.1.1.1.1.1.1.1.1.0 s.1.1.1.1.1.1.1.1.1.1.1.1.1.1.1.1.0)
      (part a.1.1.1.1.1.1.1.1.1.1.1.1.1.1.1.1.1.0 s.1.1.1.1.1.1.1.1.1.1.1.1.1.1.1.1.1.0)
      (part_mut a.1.1.1.1.1.1.1.1.1.1.1.1.1.1.1.1.1.1.0 s.1.1.1.1.1.1.1.1.1.1.1.1.1.1.1.1.1.1.0)
      (part_mut a.1.1.1.1.1.1.1.1.1.1.1.1.1.1.1.1.1.1.1.0 s.1.1.1.1.1.1.1.1.1.1.1.1.1.1.1.1.1.1.1.0)
      (part_mut a.1.1.1.1.1.1.1.1.1.1.1.1.1.1.1.1.1.1.1.1.0 s.1.1.1.1.1.1.1.1.1.1.1.1.1.1.1.1.1.1.1.1.0)
      (part_mut a.1.1.1.1.1.1.1.1.1.1.1.1.1.1.1.1.1.1.1.1.1.0 s.1.1.1.1.1.1.1.1.1.1.1.1.1.1.1.1.1.1.1.1.1.0)
      r
  zt-export-promises p = p

module _ (κs : Lfts 8) (a : Dens κs zt-and-kinds.ps) (r : JoinAnswer) (s : AtExit (ended_of 8 zt-and-kinds.ps zt-and-kinds.r) κs) where
  pub zt-and-promises : zt-and.Post κs a r s
      → ZtJoinPromise
      op.And
      a.0
      (part_mut a.1.0 s.1.0)
      (part_mut a.1.1.0 s.1.1.0)
      (part_mut a.1.1.1.0 s.1.1.1.0)
      (part_mut a.1.1.1.1.0 s.1.1.1.1.0)
      (part_mut a.1.1.1.1.1.0 s.1.1.1.1.1.0)
      (part_mut a.1.1.1.1.1.1.0 s.1.1.1.1.1.1.0)
      a.1.1.1.1.1.1.1.0
      a.1.1.1.1.1.1.1.1.0
      (part_mut a.1.1.1.1.1.1.1.1.1.0 s.1.1.1.1.1.1.1.1.1.0)
      (part_mut a.1.1.1.1.1.1.1.1.1.1.0 s.1.1.1.1.1.1.1.1.1.1.0)
      r
  zt-and-promises p = p

module _ (κs : Lfts 8) (a : Dens κs zt-or-kinds.ps) (r : JoinAnswer) (s : AtExit (ended_of 8 zt-or-kinds.ps zt-or-kinds.r) κs) where
  pub zt-or-promises : zt-or.Post κs a r s
      → ZtJoinPromise
      op.Or
      a.0
      (part_mut a.1.0 s.1.0)
      (part_mut a.1.1.0 s.1.1.0)
      (part_mut a.1.1.1.0 s.1.1.1.0)
      (part_mut a.1.1.1.1.0 s.1.1.1.1.0)
      (part_mut a.1.1.1.1.1.0 s.1.1.1.1.1.0)
      (part_mut a.1.1.1.1.1.1.0 s.1.1.1.1.1.1.0)
      a.1.1.1.1.1.1.1.0
      a.1.1.1.1.1.1.1.1.0
      (part_mut a.1.1.1.1.1.1.1.1.1.0 s.1.1.1.1.1.1.1.1.1.0)
      (part_mut a.1.1.1.1.1.1.1.1.1.1.0 s.1.1.1.1.1.1.1.1.1.1.0)
      r
  zt-or-promises p = p

module _ (κs : Lfts 8) (a : Dens κs zt-xor-kinds.ps) (r : JoinAnswer) (s : AtExit (ended_of 8 zt-xor-kinds.ps zt-xor-kinds.r) κs) where
  pub zt-xor-promises : zt-xor.Post κs a r s
      → ZtJoinPromise
      op.Xor
      a.0
      (part_mut a.1.0 s.1.0)
      (part_mut a.1.1.0 s.1.1.0)
      (part_mut a.1.1.1.0 s.1.1.1.0)
      (part_mut a.1.1.1.1.0 s.1.1.1.1.0)
      (part_mut a.1.1.1.1.1.0 s.1.1.1.1.1.0)
      (part_mut a.1.1.1.1.1.1.0 s.1.1.1.1.1.1.0)
      a.1.1.1.1.1.1.1.0
      a.1.1.1.1.1.1.1.1.0
      (part_mut a.1.1.1.1.1.1.1.1.1.0 s.1.1.1.1.1.1.1.1.1.0)
      (part_mut a.1.1.1.1.1.1.1.1.1.1.0 s.1.1.1.1.1.1.1.1.1.1.0)
      r
  zt-xor-promises p = p

module _ (κs : Lfts 7) (a : Dens κs zt-example-kinds.ps) (r : ExampleAnswer) (s : AtExit (ended_of 7 zt-example-kinds.ps zt-example-kinds.r) κs) where
  pub zt-example-promises : zt-example.Post κs a r s
      → ZtExamplePromise
      a.0
      a.1.0
      (part a.1.1.0 s.1.1.0)
      (part a.1.1.1.0 s.1.1.1.0)
      (part a.1.1.1.1.0 s.1.1.1.1.0)
      (part a.1.1.1.1.1.0 s.1.1.1.1.1.0)
      (part a.1.1.1.1.1.1.0 s.1.1.1.1.1.1.0)
      a.1.1.1.1.1.1.1.0
      a.1.1.1.1.1.1.1.1.0
      (part_mut a.1.1.1.1.1.1.1.1.1.0 s.1.1.1.1.1.1.1.1.1.0)
      (part_mut a.1.1.1.1.1.1.1.1.1.1.0 s.1.1.1.1.1.1.1.1.1.1.0)
      r
  zt-example-promises p = p

module _ (κs : Lfts 6) (a : Dens κs zt-not-kinds.ps) (r : JoinAnswer) (s : AtExit (ended_of 6 zt-not-kinds.ps zt-not-kinds.r) κs) where
  pub zt-not-promises : zt-not.Post κs a r s
      → ZtNotPromise
      a.0
      a.1.0
      (part a.1.1.0 s.1.1.0)
      (part a.1.1.1.0 s.1.1.1.0)
      (part a.1.1.1.1.0 s.1.1.1.1.0)
      (part a.1.1.1.1.1.0 s.1.1.1.1.1.0)
      (part a.1.1.1.1.1.1.0 s.1.1.1.1.1.1.0)
      a.1.1.1.1.1.1.1.0
      (part_mut a.1.1.1.1.1.1.1.1.0 s.1.1.1.1.1.1.1.1.0)
      r
  zt-not-promises p = p

module _ (κs : Lfts 12) (a : Dens κs zt-widen-kinds.ps) (r : WidenAnswer) (s : AtExit (ended_of 12 zt-widen-kinds.ps zt-widen-kinds.r) κs) where
  pub zt-widen-promises : zt-widen.Post κs a r s
      → ZtWidenPromise
      a.0
      a.1.0
      (part a.1.1.0 s.1.1.0)
      (part a.1.1.1.0 s.1.1.1.0)
      (part a.1.1.1.1.0 s.1.1.1.1.0)
      (part a.1.1.1.1.1.0 s.1.1.1.1.1.0)
      (part a.1.1.1.1.1.1.0 s.1.1.1.1.1.1.0)
      (part_mut a.1.1.1.1.1.1.1.0 s.1.1.1.1.1.1.1.0)
      (part_mut a.1.1.1.1.1.1.1.1.0 s.1.1.1.1.1.1.1.1.0)
      (part_mut a.1.1.1.1.1.1.1.1.1.0 s.1.1.1.1.1.1.1.1.1.0)
      (part_mut a.1.1.1.1.1.1.1.1.1.1.0 s.1.1.1.1.1.1.1.1.1.1.0)
      (part_mut a.1.1.1.1.1.1.1.1.1.1.1.0 s.1.1.1.1.1.1.1.1.1.1.1.0)
      (part_mut a.1.1.1.1.1.1.1.1.1.1.1.1.0 s.1.1.1.1.1.1.1.1.1.1.1.1.0)
      (part_mut a.1.1.1.1.1.1.1.1.1.1.1.1.1.0 s.1.1.1.1.1.1.1.1.1.1.1.1.1.0)
      r
  zt-widen-promises p = p
