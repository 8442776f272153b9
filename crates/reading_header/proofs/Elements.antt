-- A property of each element of a list: by another property, of what is made of the elements, of two lists one after the other, and by
-- positions.
use mathlib.Core.List.{List, [], ◌∷◌, ◌++◌, map}
use Prim.Native.Nat.{ℕ, zero, suc, ◌<◌}
use native.Mathlib.Omega.{arith}
use lib.ListN.{length, get_or}
use Rattle.read_lines.specs.Each.{Each, none, each}

module _ {A : Type 0} {P : A → Type 0} where
  pub each-by : {Q : A → Type 0} {l : List A} → ((a : A) → P a → Q a) → Each P l → Each Q l
  each-by f none = none
  each-by f (each {a = a} p k) = each (f a p) (each-by f k)

  pub each_map : {B : Type 0} {Q : B → Type 0} {l : List A} (g : A → B) → ((a : A) → P a → Q (g a)) → Each P l → Each Q (map g l)
  each_map g f none = none
  each_map g f (each {a = a} p k) = each (f a p) (each_map g f k)

  pub each_append : {l m : List A} → Each P l → Each P m → Each P (l ++ m)
  each_append none k = k
  each_append (each p h) k = each p (each_append h k)

  pub each_at : {l : List A} (i : ℕ) (d : A) → i < length l → Each P l → P (get_or l i d)
  each_at i d h none = absurd (omega arith)
  each_at zero d h (each p k) = p
  each_at (suc i) d h (each p k) = each_at i d (omega arith) k

  pub each-by-position : (d : A) (l : List A) → ((i : ℕ) → i < length l → P (get_or l i d)) → Each P l
  each-by-position d [] h = none
  each-by-position d (a ∷ l) h = each (h 0 (omega arith)) (each-by-position d l (λ i k. h (suc i) (omega arith)))
