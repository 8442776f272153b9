-- The table of keys, read from its top.
use mathlib.Core.Path.{◌≡◌}
use mathlib.Core.List.{List, ◌∷◌}
use mathlib.Core.Bool.{true, false}
use Prim.Native.Nat.{ℕ}
use Rattle.std.specs.Prelude.{Some}
use Rattle.header_keys.specs.Keys.{Name, lookup}
use Rattle.read_text.specs.Alike.{alike}

module _ (w : List ℕ) (n : Name) (ns : List Name) where
  -- a word that isn't the first name is looked up in the rest
  pub miss : alike w n.bytes ≡ false → lookup w (n ∷ ns) ≡ lookup w ns
  unfolding lookup
  miss e = rw e

  -- a word that is the first name is its key
  pub hit : alike w n.bytes ≡ true → lookup w (n ∷ ns) ≡ Some n.key
  unfolding lookup
  hit e = rw e
