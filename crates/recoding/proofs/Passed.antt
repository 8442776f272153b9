-- Laws of names that are passed on where all are there.
use mathlib.Core.Path.{◌≡◌, sym, ◌∙◌}
use mathlib.Core.List.{List}
use mathlib.Core.Bool.{Bool, true, false, cond}
use Prim.Native.Nat.{ℕ}
use lib.ListN.{length}
use Rattle.recoding.specs.Recode.{all_there}

module _ (lens : List ℕ) {b : Bool} (e : b ≡ all_there lens) where
  -- where all names are there, all are passed on
  pub passed-all : b ≡ true → length lens ≡ cond (all_there lens) (length lens) 0
  passed-all t = rw (sym e ∙ t)

  -- else none
  pub passed_none : b ≡ false → 0 ≡ cond (all_there lens) (length lens) 0
  passed_none f = rw (sym e ∙ f)
