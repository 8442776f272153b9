-- An entry of a list that was mapped.
use mathlib.Core.Path.{◌≡◌, refl}
use mathlib.Core.List.{List, [], ◌∷◌, map}
use Prim.Native.Nat.{ℕ, zero, suc, ◌<◌}
use native.Mathlib.Omega.{arith}
use lib.ListN.{length, get_or}

-- it is what the entry of the list is turned into
pub mapped_at : {A B : Type 0} (f : A → B) (l : List A) (i : ℕ) (a : A) (b : B) → i < length l → get_or (map f l) i b ≡ f (get_or l i a)
mapped_at f [] i a b h = absurd (omega arith)
mapped_at f (x ∷ l) zero a b h = refl
mapped_at f (x ∷ l) (suc i) a b h = mapped_at f l i a b (omega arith)
