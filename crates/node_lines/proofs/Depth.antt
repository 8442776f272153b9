-- Laws of depth: when a line lies deeper than a level.
use mathlib.Core.Path.{◌≡◌, ap, ◌∙◌}
use mathlib.Core.Bool.{true, false}
use mathlib.Core.List.{List}
use Prim.Native.Nat.{ℕ, suc, ◌-◌, ◌≤◌, zero-le}
use lib.Dec.{ltb}
use lib.ListN.{length, get_or, get_or-eq_default}
use borrow.Author.Tests.{le-ltb}
use Rattle.node_lines.specs.Line.{deeper}

module _ (levels seats : List ℕ) (l n : ℕ) where
  -- a terminal line
  pub deeper-terminal : get_or seats (n - 1) 0 ≡ 0 → deeper levels seats l n ≡ true
  unfolding deeper
  deeper-terminal e = rw e

  -- a line at a support position
  pub deeper-seat : (p : ℕ) → get_or seats (n - 1) 0 ≡ suc p → deeper levels seats l n ≡ ltb l (get_or levels p 0)
  unfolding deeper
  deeper-seat p e = rw e

  -- a line beyond those so far counts as a terminal
  pub deeper-beyond : length seats ≤ n - 1 → deeper levels seats l n ≡ true
  deeper-beyond h = deeper-terminal (get_or-eq_default seats 0 h)

  -- a position beyond the level list
  pub deeper-past : (p : ℕ) → get_or seats (n - 1) 0 ≡ suc p → length levels ≤ p → deeper levels seats l n ≡ false
  deeper-past p e k = deeper-seat p e ∙ ap (ltb l) (get_or-eq_default levels 0 k) ∙ le-ltb l 0 zero-le
