-- A file that is written lies within the output.
use mathlib.Core.Path.{◌≡◌, refl}
use mathlib.Core.Bool.{Bool, true, false, cond}
use mathlib.Core.List.{List}
use Prim.Native.Nat.{ℕ, ◌≤◌}
use native.Mathlib.Omega.{arith}
use lib.Dec.{ltb}
use lib.ListN.{length}
use Rattle.codes.specs.Limits.{limits}
use Rattle.codes.proofs.LimitsNow.{limits-exports}
use Rattle.codes.specs.Answer.{Read, value, refused}
use Rattle.store.specs.Store.{Store}
use Rattle.exported.specs.Export.{Export, export_of}
use Rattle.exported.proofs.Answered.{answered}
use Rattle.header.specs.Header as head
use Rattle.calls.specs.Load.{Loaded}
use Rattle.recoding.specs.Recode.{written, refusal, of_read, input_most, head_read, reload_of, refuse_file, after_load, after_header, recode_of}

-- a refusal writes nothing
pub refused_none : {n k line : ℕ} {A : Type 0} → refusal k line ≡ written n → A
refused_none e = absurd (let z : ◌≡◌ {A = ℕ} 0 1 = cc in omega arith)

module _ (f : List ℕ) (lent n : ℕ) where
  -- an export that answers a length has written within its output
  export-within : (x : Export) (σ : Store) → of_read (export_of limits x σ).answer ≡ written n → n ≤ x.out
  export-within x σ e = go (export_of limits x σ).answer refl e
    where
      go : (a : Read ℕ) → (export_of limits x σ).answer ≡ a → of_read a ≡ written n → n ≤ x.out
      go (value m) q e = let same : m ≡ n = cc in omega (arith, (answered limits x σ m q limits-exports).room)
      go (refused k) q e = refused_none e

  -- by what the load answered
  load-within : (r : Loaded) (a : head.HeaderAnswer) → (after_load limits f r a lent).answer ≡ written n → n ≤ lent
  load-within r (head.refusal k line) e = refused_none e
  load-within r (head.header h) e = export-within _ r.after e

  -- by what the header's reading answered
  header-within : (a : head.HeaderAnswer) → (after_header limits f a lent).answer ≡ written n → n ≤ lent
  header-within (head.refusal k line) e = refused_none e
  header-within (head.header h) e = load-within (reload_of limits f h) (reload_of limits f h).answer e

  -- Where the answer is a length, the output is that long.
  pub recode-within : (recode_of limits f lent).answer ≡ written n → n ≤ lent
  unfolding recode_of
  recode-within e = go (ltb input_most (length f)) e
    where
      go : (long : Bool) → (cond long (refuse_file 19 0 lent) (after_header limits f (head_read limits f).answer lent)).answer ≡ written n → n ≤ lent
      go true e = refused_none e
      go false e = header-within (head_read limits f).answer e
