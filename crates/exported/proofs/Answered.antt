-- What an export that answers a length has written.
use mathlib.Core.Path.{◌≡◌, refl}
use mathlib.Core.List.{List}
use Prim.Native.Nat.{ℕ, zero, suc, ◌≤◌}
use native.Mathlib.Omega.{arith}
use lib.ListN.{length, replicate, length-replicate}
use Rattle.codes.specs.Answer.{value}
use Rattle.codes.specs.Limits.{Limits, RoomForExports}
use Rattle.store.specs.Store.{Store}
use Rattle.reached.proofs.Laid.{take-laid}
use Rattle.exported.specs.Export.{Export, export_by, export_fault_of, export_file_of, export_of}
use Rattle.exported.specs.Answered.{Answered}
use Rattle.exported.proofs.Accepted.{Accepted, accepted}
use Rattle.exported.proofs.FileParts.{file-short}

module _ (m : Limits) (x : Export) (σ : Store) where
  abbrev file : List ℕ
  file = export_file_of x σ

  -- an export that answers a length isn't refused, and the length is its file's
  unrefused : (n : ℕ) → (export_of m x σ).answer ≡ value n → (export_fault_of m x σ ≡ 0) × (n ≡ length file)
  unrefused n q = go (export_fault_of m x σ) refl q
    where
      go : (k : ℕ) → export_fault_of m x σ ≡ k → (export_by k file x.out).answer ≡ value n → (export_fault_of m x σ ≡ 0) × (n ≡ length file)
      go zero e q = (e, cc)
      go (suc k) e q = absurd (let z : ◌≡◌ {A = ℕ} 0 1 = cc in omega arith)

  module _ (n : ℕ) (q : (export_of m x σ).answer ≡ value n) where
    -- so it has what an accepted one has
    pub answered-accepted : Accepted m σ x.roots x.order x.names x.slots x.numbers x.out
    answered-accepted = accepted σ x.roots x.order x.names x.slots x.numbers x.out (unrefused n q).0

    -- and its output starts with the file
    pub answered : RoomForExports m → Answered m x σ n
    answered W =
        let u = unrefused n q in
        let A = answered-accepted in
        let fits : length file ≤ x.out = omega (arith, file-short x.settings W A, A.out_long) in
        record {
          counted = u.1;
          room = omega (arith, u.1);
          front = rw (u.0, u.1) (take-laid file (replicate x.out 0) (omega (arith, length-replicate {A = ℕ} x.out 0)));
        }
