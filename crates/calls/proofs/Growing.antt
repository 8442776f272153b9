-- Along a list of calls the store only grows, and keeps the rules: no call changes a node that is there, refused or not.
use mathlib.Core.Path.{◌≡◌, refl}
use mathlib.Core.List.{List, [], ◌∷◌}
use Prim.Native.Nat.{ℕ, zero, suc, ◌≤◌, ◌<◌}
use native.Mathlib.Omega.{arith}
use lib.ListN.{length, take}
use Rattle.store.specs.Store.{Store}
use Rattle.codes.specs.Limits.{Limits}
use Rattle.store.specs.Rules.{Rules}
use Rattle.store.specs.Growth.{Grows}
use Rattle.store.proofs.Growth.{grows-refl, grows-trans}
use Rattle.header.specs.Header.{HeaderAnswer, header, refusal}
use Rattle.joined.proofs.Roots.{join-extends}
use Rattle.calls.specs.Load.{Load, load_of}
use Rattle.calls.specs.Calls.{Call, load, evaluate, example, tip, export, join, opposite}
use Rattle.calls.specs.Outcome.{leaves}
use Rattle.calls.specs.Lists.{run_calls, before}
use Rattle.calls.specs.Roots.{At, here, later}
use Rattle.calls.proofs.Passes.{load-refused}
use Rattle.calls.proofs.RootsAnswer.{roots-answer}

-- a load leaves a store that has only grown
load-grows : (m : Limits) (c : Load) (σ : Store) → Grows σ (load_of m c σ).after
load-grows m c σ = go (load_of m c σ).answer refl
  where
    go : (a : HeaderAnswer) → (load_of m c σ).answer ≡ a → Grows σ (load_of m c σ).after
    go (header h) q = (roots-answer m c σ h q).grows
    go (refusal n line) q = rw (load-refused m c σ n line q) (grows-refl σ)

-- so does every call
pub call-grows : (m : Limits) (c : Call) (σ : Store) → Grows σ (leaves m c σ).after
call-grows m (load c) σ = load-grows m c σ
call-grows m (evaluate e s) σ = grows-refl σ
call-grows m (example e wanted long) σ = grows-refl σ
call-grows m (tip e s) σ = grows-refl σ
call-grows m (export x) σ = grows-refl σ
call-grows m (join o a b) σ = (join-extends m o σ a b).grows
call-grows m (opposite a) σ = grows-refl σ

-- and a list of calls
pub run-grows : (m : Limits) (σ : Store) (cs : List Call) → Grows σ (run_calls m σ cs)
unfolding run_calls
run-grows m σ [] = grows-refl σ
run-grows m σ (c ∷ cs) = grows-trans (call-grows m c σ) (run-grows m (leaves m c σ).after cs)

-- the store before a place grows into that before a later one
pub before-grows : (m : Limits) (σ : Store) (cs : List Call) (j k : ℕ) → j ≤ k → Grows (before m σ cs j) (before m σ cs k)
unfolding run_calls
before-grows m σ cs zero k h = run-grows m σ (take k cs)
before-grows m σ cs (suc j) zero h = absurd (omega arith)
before-grows m σ [] (suc j) (suc k) h = grows-refl σ
before-grows m σ (c ∷ cs) (suc j) (suc k) h = before-grows m (leaves m c σ).after cs j k (omega arith)

-- what a call leaves is the store before the next place
pub next_before : (m : Limits) (σ : Store) {cs : List Call} {k : ℕ} {c : Call} → At cs k c → (leaves m c (before m σ cs k)).after ≡ before m σ cs (suc k)
unfolding run_calls
next_before m σ here = refl
next_before m σ (later {d = d} p) = next_before m (leaves m d σ).after p

-- so it grows into the store before every later place
pub after-grows : (m : Limits) (σ : Store) {cs : List Call} {j : ℕ} {c : Call} → At cs j c → (k : ℕ) → j < k
    → Grows (leaves m c (before m σ cs j)).after (before m σ cs k)
after-grows m σ {cs} {j} p k h = rw (next_before m σ p) (before-grows m σ cs (suc j) k (omega arith))

-- a load leaves a store that keeps the rules where it found one
load-rules : (m : Limits) (c : Load) (σ : Store) → Rules m σ → Rules m (load_of m c σ).after
load-rules m c σ R = go (load_of m c σ).answer refl
  where
    go : (a : HeaderAnswer) → (load_of m c σ).answer ≡ a → Rules m (load_of m c σ).after
    go (header h) q = (roots-answer m c σ h q).rules
    go (refusal n line) q = rw (load-refused m c σ n line q) R

-- so does every call
pub call-rules : (m : Limits) (c : Call) (σ : Store) → Rules m σ → Rules m (leaves m c σ).after
call-rules m (load c) σ R = load-rules m c σ R
call-rules m (evaluate e s) σ R = R
call-rules m (example e wanted long) σ R = R
call-rules m (tip e s) σ R = R
call-rules m (export x) σ R = R
call-rules m (join o a b) σ R = (join-extends m o σ a b).rules R
call-rules m (opposite a) σ R = R

-- and a list of calls
pub run-rules : (m : Limits) (σ : Store) (cs : List Call) → Rules m σ → Rules m (run_calls m σ cs)
unfolding run_calls
run-rules m σ [] R = R
run-rules m σ (c ∷ cs) R = run-rules m (leaves m c σ).after cs (call-rules m c σ R)

-- where the store keeps the rules before a place, it does before every later one
before-rules : (m : Limits) (σ : Store) (cs : List Call) (j k : ℕ) → j ≤ k → Rules m (before m σ cs j) → Rules m (before m σ cs k)
unfolding run_calls
before-rules m σ cs zero k h R = run-rules m σ (take k cs) R
before-rules m σ cs (suc j) zero h R = absurd (omega arith)
before-rules m σ [] (suc j) (suc k) h R = R
before-rules m σ (c ∷ cs) (suc j) (suc k) h R = before-rules m (leaves m c σ).after cs j k (omega arith) R

-- so a call that leaves such a store does so for every later place
pub after-rules : (m : Limits) (σ : Store) {cs : List Call} {j : ℕ} {c : Call} → At cs j c → (k : ℕ) → j < k
    → Rules m (leaves m c (before m σ cs j)).after → Rules m (before m σ cs k)
after-rules m σ {cs} {j} p k h R = before-rules m σ cs (suc j) k (omega arith) (rw (next_before m σ p) at R)

-- a call of a list stands at a place of it
pub at-below : {cs : List Call} {k : ℕ} {c : Call} → At cs k c → k < length cs
at-below here = omega arith
at-below (later p) = let h = at-below p in omega arith
