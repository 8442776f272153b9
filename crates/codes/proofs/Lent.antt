-- Laws of a lent list with entries laid over its front.
use mathlib.Core.Path.{◌≡◌, refl, ap}
use mathlib.Core.List.{List, [], ◌∷◌, ◌++◌}
use Prim.Native.Nat.{suc}
use lib.ListN.{length, set}
use Rattle.codes.specs.Lent.{laid}

-- its length stays
pub length-laid : {A : Type 0} (es old : List A) → length (laid es old) ≡ length old
unfolding laid
length-laid [] old = refl
length-laid (e ∷ es) [] = refl
length-laid (e ∷ es) (o ∷ old) = ap suc (length-laid es old)

-- one entry more is stored after those that are there, if the list reaches so far
pub laid_more : {A : Type 0} (es old : List A) (a : A) → set (laid es old) (length es) a ≡ laid (es ++ (a ∷ [])) old
unfolding laid
laid_more [] [] a = refl
laid_more [] (o ∷ old) a = refl
laid_more (e ∷ es) [] a = refl
laid_more (e ∷ es) (o ∷ old) a = ap (λ l. e ∷ l) (laid_more es old a)

-- no entries yet
pub laid_none : {A : Type 0} (old : List A) → old ≡ laid [] old
unfolding laid
laid_none old = refl
