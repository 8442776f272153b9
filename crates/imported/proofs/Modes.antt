-- What differs between the two modes: how a node line is read, and which line a refusal names.
use mathlib.Core.Path.{◌≡◌}
use mathlib.Core.Bool.{Bool, true, false}
use mathlib.Core.List.{List}
use Prim.Native.Nat.{ℕ}
use borrow.Author.Tests.{ne_eqb}
use Rattle.import_ascii.specs.Text.{text_line_at}
use Rattle.import_bin.specs.Bin.{bin_line_at}
use Rattle.imported.specs.Import.{line_by, line_for}

module _ (ascii extra : Bool) (list : List ℕ) (levels : ℕ) (f seats : List ℕ) (n at : ℕ) where
  -- a line of text
  pub text-line : ascii ≡ true → text_line_at extra list seats n f at ≡ line_by ascii extra list levels f seats n at
  unfolding line_by
  text-line p = rw p

  -- a line in binary
  pub bin_line : ascii ≡ false → bin_line_at levels list seats n f at ≡ line_by ascii extra list levels f seats n at
  unfolding line_by
  bin_line p = rw p

-- a refusal 30 names no line
pub early-line : (ascii : Bool) (line k : ℕ) → ascii ≡ true → k ≡ 30 → 0 ≡ line_for ascii line k
early-line ascii line k p q = rw (p, q)

-- another refusal of a line of text names the line
pub own_line : (ascii : Bool) (line k : ℕ) → ascii ≡ true → (k ≡ 30 → ⊥) → line ≡ line_for ascii line k
own_line ascii line k p q = rw (p, ne_eqb k 30 q)
