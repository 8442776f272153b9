-- Laws of sums that are held to a limit.
use mathlib.Core.Path.{◌≡◌, refl}
use mathlib.Core.Bool.{Bool, true, false, cond}
use mathlib.Core.List.{List}
use mathlib.Core.Logic.{◌⊎◌}
use Prim.Native.Nat.{ℕ, suc, ◌+◌, ◌-◌, ◌*◌, ◌/◌, ◌≤◌, ◌<◌}
use native.Mathlib.Nat.{mul_comm, mul-add, le-div_iff_mul-le, div-lt_iff_lt-mul}
use native.Mathlib.Numerals.{add-one}
use native.Mathlib.Omega.{arith}
use lib.ListN.{length, get_or, drop, drop_of_length-le}
use lib.Seq.{drop-cons}
use lib.Dec.{leb}
use borrow.Author.Tests.{leb-true, leb-false}
use Rattle.std.proofs.Common.{Some, None, inl, inr}
use Rattle.std.specs.Option.{is_some}
use Rattle.export_size.specs.Size.{sum, limited}

-- A number is within the limit, or over it, where nothing is kept of it. The first part is trivially true: it gives `grind` a term to match.
pub limited_cases : (max n : ℕ) → (limited max n ≡ limited max n) × (((n ≤ max) × (limited max n ≡ Some n)) ⊎ ((max < n) × (limited max n ≡ None)))
unfolding limited
limited_cases max n = (refl, go (leb n max) refl)
  where
    go : (b : Bool) → leb n max ≡ b → ((n ≤ max) × (cond b (Some n) None ≡ Some n)) ⊎ ((max < n) × (cond b (Some n) None ≡ None))
    go true e = inl (leb-true n max e, refl)
    go false e = inr (leb-false n max e, refl)

-- So there is something kept just where it is within.
pub limited_kept : (max n : ℕ) → is_some (limited max n) ≡ leb n max
unfolding limited
limited_kept max n = go (leb n max)
  where
    go : (b : Bool) → is_some (cond b (Some n) None) ≡ b
    go true = refl
    go false = refl

-- Whether a multiple is within what is left up to the limit is told by a division, before it is made.
module _ (max s times n : ℕ) (h : s ≤ max) (t : 0 < times) where
  pub has_room : n ≤ (max - s) / times → s + times * n ≤ max
  has_room q = omega (arith, mul_comm n times, (le-div_iff_mul-le t).0 q)

  pub no_room : (max - s) / times < n → max < s + times * n
  no_room q = omega (arith, mul_comm n times, (div-lt_iff_lt-mul t).0 q)

-- The first of the lengths from i on is added, and the others are left.
pub sum_next : (times : ℕ) (lens : List ℕ) (i : ℕ) → i < length lens
    → times * sum (drop i lens) ≡ times * get_or lens i 0 + times * sum (drop (i + 1) lens)
unfolding sum
sum_next times lens i h = rw (drop-cons lens i 0 h, add-one i) (mul-add times (get_or lens i 0) (sum (drop (suc i) lens)))

-- None is left after the last.
pub sum_past : (times : ℕ) (lens : List ℕ) (i : ℕ) → length lens ≤ i → times * sum (drop i lens) ≡ 0
unfolding sum
sum_past times lens i h = rw (drop_of_length-le lens h) (omega arith)
