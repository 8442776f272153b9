-- Laws of single checks: when one refuses, and what holds where it doesn't.
use mathlib.Core.Path.{◌≡◌, refl}
use mathlib.Core.Bool.{Bool, true, false}
use Prim.Native.Nat.{ℕ, suc, ◌≤◌, ◌<◌}
use native.Mathlib.Omega.{arith}
use lib.Dec.{ltb}
use borrow.Author.Tests.{ltb-false, lt-ltb, le-ltb}
use Rattle.codes.specs.Faults.{when, unless}

-- what must hold does
pub unless_holds : {b : Bool} (n : ℕ) → b ≡ true → unless b n ≡ 0
unless_holds n e = rw e

-- it doesn't
pub unless-fails : {b : Bool} (n : ℕ) → b ≡ false → unless b n ≡ n
unless-fails n e = rw e

-- where there is no refusal it holds
pub unless-none : (b : Bool) (n : ℕ) → unless b (suc n) ≡ 0 → b ≡ true
unless-none true n h = refl
unless-none false n h = absurd (omega arith)

-- a number is over its limit
pub over-refuses : (lim n k : ℕ) → lim < n → when (ltb lim n) k ≡ k
over-refuses lim n k h = rw (lt-ltb lim n h)

-- it isn't
pub within-passes : (lim n k : ℕ) → n ≤ lim → when (ltb lim n) k ≡ 0
within-passes lim n k h = rw (le-ltb lim n h)

-- where there is no refusal it isn't
pub within_none : (lim n k : ℕ) → when (ltb lim n) (suc k) ≡ 0 → n ≤ lim
within_none lim n k h = go (ltb lim n) refl h
  where
    go : (b : Bool) → ltb lim n ≡ b → when b (suc k) ≡ 0 → n ≤ lim
    go true e h = absurd (omega arith)
    go false e h = ltb-false lim n e

-- What holds of no refusal and of a check's refusal holds of the check.
module _ (P : ℕ → Type 0) (z : P 0) {n : ℕ} (h : P n) where
  pub when-in : (b : Bool) → P (when b n)
  when-in true = h
  when-in false = z

  pub unless-in : (b : Bool) → P (unless b n)
  unless-in true = z
  unless-in false = h
