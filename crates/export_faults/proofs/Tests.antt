-- Tests in a row, of which the first that fails decides.
use mathlib.Core.Path.{◌≡◌, sym, ◌∙◌}
use mathlib.Core.Bool.{Bool, true, false, not, ◌&&◌}
use borrow.Author.Tests.{not-true, not-false}

-- a test that a negation turned over: it held, or it failed
pub held : {r a : Bool} → r ≡ a → not r ≡ false → a ≡ true
held {r} e h = sym e ∙ not-false r h

pub failed : {r a : Bool} → r ≡ a → not r ≡ true → a ≡ false
failed {r} e h = sym e ∙ not-true r h

module _ (a b c : Bool) where
  pub first-fails : a ≡ false → false ≡ (a && b && c)
  first-fails p = rw p

  pub second-fails : a ≡ true → b ≡ false → false ≡ (a && b && c)
  second-fails p q = rw (p, q)

  -- the last decides where the others hold
  pub last-decides : a ≡ true → b ≡ true → c ≡ (a && b && c)
  last-decides p q = rw (p, q)
