-- One more entry of a list, by the count of those before it.
use mathlib.Core.Path.{◌≡◌}
use mathlib.Core.List.{List, [], ◌∷◌, ◌++◌}
use Prim.Native.Nat.{ℕ, ◌≤◌, ◌<◌}
use lib.ListN.{length}
use borrow.Author.Tests.{lt-ltb, le-ltb}
use Rattle.read_lists.specs.Lists.{another}

module _ {A R : Type 0} (max : ℕ) (es : List A) (a : A) (more full : List A → R) where
  pub another-more : length es < max → another max es a more full ≡ more (es ++ (a ∷ []))
  another-more h = rw (lt-ltb (length es) max h, another)

  pub another-full : max ≤ length es → another max es a more full ≡ full es
  another-full h = rw (le-ltb (length es) max h, another)
