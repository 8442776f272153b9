-- What is found of an old store before a node is looked at.
use mathlib.Core.Path.{◌≡◌, sym}
use mathlib.Core.Bool.{true, false}
use Prim.Native.Nat.{ℕ, ◌<◌, ◌≤◌}
use native.Mathlib.Omega.{arith}
use Rattle.codes.specs.Faults.{first_fault}
use Rattle.store.specs.Store.{Store}
use Rattle.store.specs.Rules.{Zero, Rules}
use Rattle.store.specs.Keeps.{keeps, is-keeps, says-no}
use Rattle.widened.specs.OldLimits.{old_limits}
use Rattle.widened.specs.Widen.{NewLengths, takes, widen_fault}
use Rattle.old_stores.specs.Promises.{Judged}

-- slot 1 is zero, and the unused slots up to n are
pub record ZerosTo (σ : Store) (n : ℕ) : Type 0 where
  pub first : Zero σ 1
  pub unused : (k : ℕ) → σ.count < k → k ≤ n → Zero σ k

module _ (l : NewLengths) (σ : Store) where
  -- the refusals
  pub fault-short : takes l σ.count ≡ false → widen_fault l σ ≡ 1
  unfolding widen_fault first_fault
  fault-short q = rw q

  pub fault-broken : takes l σ.count ≡ true → keeps old_limits σ ≡ false → widen_fault l σ ≡ 3
  unfolding widen_fault first_fault
  fault-broken q k = rw (q, k)

  -- what is found before a node is looked at
  pub judged-short : takes l σ.count ≡ false → Judged l σ 1
  judged-short q = record { none = λ h. absurd (omega arith); found = λ _. fault-short q }

  pub judged-broken : takes l σ.count ≡ true → (Rules old_limits σ → ⊥) → Judged l σ 3
  judged-broken q f = record { none = λ h. absurd (omega arith); found = λ _. fault-broken q (sym (is-keeps old_limits σ false (says-no f))) }
