-- Laws of entries that are laid over the front of a lent list, where others lie already.
use mathlib.Core.Path.{◌≡◌, refl, ap}
use mathlib.Core.List.{List, [], ◌∷◌}
use Prim.Native.Nat.{ℕ, zero, suc, ◌≤◌}
use native.Mathlib.Omega.{arith}
use lib.ListN.{length, take}
use Rattle.codes.specs.Lent.{laid}

module _ {A : Type 0} where
  -- entries that the list has room for are its front
  pub take-laid : (es old : List A) → length es ≤ length old → take (length es) (laid es old) ≡ es
  unfolding laid
  take-laid [] old h = refl
  take-laid (e ∷ es) [] h = absurd (omega arith)
  take-laid (e ∷ es) (o ∷ old) h = ap (λ l. e ∷ l) (take-laid es old (omega arith))

  -- the list's own front changes nothing
  pub laid-front : (n : ℕ) (old : List A) → laid (take n old) old ≡ old
  unfolding laid
  laid-front zero old = refl
  laid-front (suc n) [] = refl
  laid-front (suc n) (o ∷ old) = ap (λ l. o ∷ l) (laid-front n old)

  -- as many entries or more hide those that lay there
  pub laid-over : (es more old : List A) → length es ≤ length more → laid more (laid es old) ≡ laid more old
  unfolding laid
  laid-over [] more old h = refl
  laid-over (e ∷ es) [] old h = absurd (omega arith)
  laid-over (e ∷ es) (m ∷ more) [] h = refl
  laid-over (e ∷ es) (m ∷ more) (o ∷ old) h = ap (λ l. m ∷ l) (laid-over es more old (omega arith))
