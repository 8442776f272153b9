-- The judges' answers, case by case.
use mathlib.Core.Path.{◌≡◌, refl}
use mathlib.Core.List.{List, [], ◌∷◌}
use mathlib.Core.Bool.{true, false}
use Prim.Native.Nat.{ℕ, ◌≤◌, ◌<◌}
use native.Mathlib.Omega.{arith}
use lib.ListN.{length, get_or}
use borrow.Author.Tests.{le-leb, lt-leb}
use Rattle.read_text.specs.Alike.{alike}
use Rattle.header_faults.specs.Judge.{version20, version30, version_fault, mode_a, mode_b, mode_fault, varinfo_fault}

module _ (s : List ℕ) where
  -- version 2.0 has no fault
  pub version-20 : alike s version20 ≡ true → version_fault s ≡ 0
  unfolding version_fault
  version-20 e = rw e

  -- nor has 3.0
  pub version-30 : alike s version20 ≡ false → alike s version30 ≡ true → version_fault s ≡ 0
  unfolding version_fault
  version-30 d e = rw (d, e)

  -- any other has
  pub version-bad : alike s version20 ≡ false → alike s version30 ≡ false → version_fault s ≡ 12
  unfolding version_fault
  version-bad d e = rw (d, e)

  -- mode A has no fault
  pub mode-a : alike s mode_a ≡ true → mode_fault s ≡ 0
  unfolding mode_fault
  mode-a e = rw e

  -- nor has B
  pub mode-b : alike s mode_a ≡ false → alike s mode_b ≡ true → mode_fault s ≡ 0
  unfolding mode_fault
  mode-b d e = rw (d, e)

  -- any other has
  pub mode-bad : alike s mode_a ≡ false → alike s mode_b ≡ false → mode_fault s ≡ 13
  unfolding mode_fault
  mode-bad d e = rw (d, e)

-- a value of `.varinfo` that isn't one byte has a fault
pub varinfo-long : (s : List ℕ) → (length s ≡ 1 → ⊥) → varinfo_fault s ≡ 13
unfolding varinfo_fault
varinfo-long [] h = refl
varinfo-long (x ∷ []) h = absurd (h refl)
varinfo-long (x ∷ y ∷ s) h = refl

-- a byte below the digit 0 has
pub varinfo-low : (s : List ℕ) → length s ≡ 1 → get_or s 0 0 < 0x30 → varinfo_fault s ≡ 13
unfolding varinfo_fault
varinfo-low [] h k = absurd (omega arith)
varinfo-low (x ∷ []) h k = rw (lt-leb 0x30 x k)
varinfo-low (x ∷ y ∷ s) h k = absurd (omega arith)

-- one above the digit 4 has
pub varinfo-high : (s : List ℕ) → length s ≡ 1 → 0x30 ≤ get_or s 0 0 → 0x34 < get_or s 0 0 → varinfo_fault s ≡ 13
unfolding varinfo_fault
varinfo-high [] h j k = absurd (omega arith)
varinfo-high (x ∷ []) h j k = rw (le-leb 0x30 x j, lt-leb x 0x34 k)
varinfo-high (x ∷ y ∷ s) h j k = absurd (omega arith)

-- those between have none
pub varinfo-in : (s : List ℕ) → length s ≡ 1 → 0x30 ≤ get_or s 0 0 → get_or s 0 0 ≤ 0x34 → varinfo_fault s ≡ 0
unfolding varinfo_fault
varinfo-in [] h j k = absurd (omega arith)
varinfo-in (x ∷ []) h j k = rw (le-leb 0x30 x j, le-leb x 0x34 k)
varinfo-in (x ∷ y ∷ s) h j k = absurd (omega arith)
