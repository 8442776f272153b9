-- Demand 2, third part, of every export. Its other parts, of every load, stand in the crate `calls`.
use mathlib.Core.Path.{◌≡◌, sym, ap, ◌∙◌}
use mathlib.Core.List.{List}
use Prim.Native.Nat.{ℕ}
use lib.ListN.{length, take}
use Rattle.codes.specs.Limits.{Limits, RoomForExports}
use Rattle.codes.specs.Answer.{value}
use Rattle.store.specs.Store.{Store}
use Rattle.exported.specs.Export.{Export, export_file_of, export_of}
use Rattle.exported.proofs.Accepted.{exported}
use Rattle.exported.proofs.Answered.{answered-accepted, answered}
use Rattle.exported.proofs.Grown.{file-grown}
use Rattle.calls.specs.Calls.{Call}
use Rattle.calls.specs.Lists.{run_calls}
use Rattle.calls.proofs.Growing.{run-grows}
use Rattle.demands.specs.LoadsBack.{OutputLoads, OutputLoadsLater, SamePlan}
use Rattle.demands.proofs.LoadsBack.{export-loads, export-loads-later}

-- 'An exported file, text or binary, reads back as the same roots': where an export answers a length, so many bytes of its output are its
-- file, and every load of it into the same store, or any that keeps the rules and that it has grown into, at the levels of its own nodes and
-- lent long enough parts, is accepted, makes no node, and gives the roots that were exported, signs included.
pub demand-2-back : (m : Limits) → RoomForExports m → (x : Export) (σ : Store) (n : ℕ) → (export_of m x σ).answer ≡ value n → OutputLoads m x σ n
demand-2-back m W x σ n q = export-loads W x σ n q

-- The same with any calls between export and load, refused or not.
pub demand-2-back-later : (m : Limits) → RoomForExports m → (x : Export) (σ : Store) (n : ℕ) → (export_of m x σ).answer ≡ value n
    → OutputLoadsLater m x σ n
demand-2-back-later m W x σ n q = export-loads-later W x σ n q

-- the file of a plan is that of every export of it
plan-file : {x y : Export} → SamePlan x y → (σ : Store) → export_file_of y σ ≡ export_file_of x σ
plan-file P σ = rw (P.settings, P.roots, P.order, P.names)

-- 'The desk stores exported plans by their bytes and finds one plan under several': document 02, order 1. One plan has one file: exported
-- again after any calls, refused or not, it has the same length and the same bytes.
pub demand-2-same-file : (m : Limits) → RoomForExports m → (x y : Export) (σ : Store) (cs : List Call) (n k : ℕ) → SamePlan x y
    → (export_of m x σ).answer ≡ value n → (export_of m y (run_calls m σ cs)).answer ≡ value k
    → (k ≡ n) × (take k (export_of m y (run_calls m σ cs)).out ≡ take n (export_of m x σ).out)
demand-2-same-file m W x y σ cs n k P q r =
    let A = answered m x σ n q W in
    let B = answered m y (run_calls m σ cs) k r W in
    let E = exported (answered-accepted m x σ n q) in
    let same = plan-file P (run_calls m σ cs) ∙ file-grown (run-grows m σ cs) x.settings x.order x.names E in
    (B.counted ∙ ap length same ∙ sym A.counted, B.front ∙ same ∙ sym A.front)
