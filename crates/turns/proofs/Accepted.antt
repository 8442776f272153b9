-- What an accepted call has shown: the store that it found keeps the rules, and it leaves as many slots. Document 01, 'Answers, by who can cause them':
-- '3 the store breaks its rules.'
use mathlib.Core.Path.{◌≡◌, refl, ap, ◌∙◌}
use mathlib.Core.Bool.{Bool, true, false, cond}
use Prim.Native.Nat.{ℕ}
use native.Mathlib.Omega.{arith}
use lib.ListN.{length}
use lib.IntN.{ℤ}
use Rattle.codes.specs.Limits.{Limits}
use Rattle.codes.specs.Answer.{Read, value, refused}
use Rattle.store.specs.Store.{Store}
use Rattle.store.specs.Rules.{Rules}
use Rattle.store.specs.Keeps.{keeps, keeps-true}
use Rattle.header.specs.Header as head
use Rattle.evaluation.specs.Evaluation.{evaluation}
use Rattle.example_walk.specs.Example.{example_of}
use Rattle.example_walk.proofs.Laws.{example-given}
use Rattle.tipping.specs.Tip.{tip_of}
use Rattle.tipping.proofs.Laws.{tip-given}
use Rattle.exported.specs.Export.{export_of}
use Rattle.exported.proofs.Answered.{answered-accepted}
use Rattle.joined.specs.Roots.{join_roots, opposite_root}
use Rattle.joined.proofs.Roots.{join-gives, join-extends, opposite-means}
use Rattle.level_list.proofs.LevelLists.{list-levels}
use Rattle.imported.proofs.Acceptance.{roots-say}
use Rattle.calls.specs.Load.{Load, Loaded, load_of, setup_of}
use Rattle.calls.specs.Calls.{Call, load, evaluate, example, tip, export, join, opposite}
use Rattle.calls.specs.Outcome.{accepted, refusal, verdict_of, verdict_read, leaves}
use Rattle.calls.specs.Roots.{Meaning, Gives, loaded, joined, opposed}
use Rattle.calls.proofs.Passes.{between_none, passes-load}
use Rattle.calls.proofs.Accepted.{answered, answered-passes}

-- a refusal is no acceptance
pub not-accepted : {A : Type 0} {n line : ℕ} → refusal n line ≡ accepted → A
not-accepted q = absurd (let z : ◌≡◌ {A = ℕ} 0 1 = cc in omega arith)

-- what is accepted has an answer
pub accepted-header : (a : head.HeaderAnswer) → verdict_of a ≡ accepted → (h : head.Header) × (a ≡ head.header h)
accepted-header (head.header h) q = (h, refl)
accepted-header (head.refusal n line) q = not-accepted q

pub accepted-value : {A : Type 0} (r : Read A) → verdict_read r ≡ accepted → (x : A) × (r ≡ value x)
accepted-value (value x) q = (x, refl)
accepted-value (refused n) q = not-accepted q

-- an evaluation that has an answer
evaluated-rules : (m : Limits) (σ : Store) (e : ℤ) (s : _) (x : Bool) → evaluation m σ e s ≡ value x → Rules m σ
unfolding evaluation
evaluated-rules m σ e s x q = go (keeps m σ) refl _ q
  where
    go : (k : Bool) → keeps m σ ≡ k → (r : Read Bool) → cond k r (refused 3) ≡ value x → Rules m σ
    go true p r q = keeps-true m σ p
    go false p r q = absurd (let z : ◌≡◌ {A = ℕ} 0 1 = cc in omega arith)

-- The store that an accepted call found keeps the rules.
pub accepted-rules : (m : Limits) (c : Call) (σ : Store) → (leaves m c σ).verdict ≡ accepted → Rules m σ
accepted-rules m (load c) σ q = let w = accepted-header (load_of m c σ).answer q in (answered m c σ w.0 w.1).rules
accepted-rules m (evaluate e s) σ q = let w = accepted-value (evaluation m σ e s) q in evaluated-rules m σ e s w.0 w.1
accepted-rules m (example e wanted long) σ q =
    let w = accepted-value (example_of m σ e wanted long) q in (example-given m σ e wanted long w.1).rules
accepted-rules m (tip e s) σ q = let w = accepted-value (tip_of m σ e s) q in (tip-given m σ e s w.1).asked.rules
accepted-rules m (export x) σ q = let w = accepted-value (export_of m x σ).answer q in (answered-accepted m x σ w.0 w.1).rules
accepted-rules m (join o a b) σ q =
    let w = accepted-value (join_roots m o σ a b).answer q in (join-gives m o σ a b w.0 w.1).0.rules
accepted-rules m (opposite a) σ q = let w = accepted-value (opposite_root m σ a) q in (opposite-means m σ a w.0 w.1).rules

-- a load leaves as many slots
load-long : (m : Limits) (c : Load) (σ : Store) (h : head.Header) → (load_of m c σ).answer ≡ head.header h
    → length (load_of m c σ).after.level ≡ length σ.level
load-long m c σ h q =
    let p = answered-passes m c σ h q in
    let b = between_none c σ h p.unrefused in
    ap (λ (r : Loaded). length r.after.level) (passes-load m c σ h p)
    ∙ (roots-say (setup_of c σ.levels h) σ c.file h.next _ (answered m c σ h q).rules (list-levels _ _ c.list b.1.1) p.at
    p.nodes_read).slots

-- So does every accepted call.
pub call_long : (m : Limits) (c : Call) (σ : Store) → (leaves m c σ).verdict ≡ accepted → length (leaves m c σ).after.level ≡ length σ.level
call_long m (load c) σ q = let w = accepted-header (load_of m c σ).answer q in load-long m c σ w.0 w.1
call_long m (evaluate e s) σ q = refl
call_long m (example e wanted long) σ q = refl
call_long m (tip e s) σ q = refl
call_long m (export x) σ q = refl
call_long m (join o a b) σ q = (join-extends m o σ a b).long
call_long m (opposite a) σ q = refl

-- A call that gives a root is accepted.
pub gives-accepted : {m : Limits} {c : Call} {σ : Store} {e : ℤ} {x : Meaning} → Gives m c σ e x → (leaves m c σ).verdict ≡ accepted
gives-accepted (loaded c σ h i e q k t) = ap verdict_of q
gives-accepted (joined o a b σ e q) = ap verdict_read q
gives-accepted (opposed a σ e q) = ap verdict_read q
