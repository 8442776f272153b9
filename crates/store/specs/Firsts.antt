-- Numbers of which some come again: the first of equal ones stays.
use Rattle.std.specs.Prelude.{ℕ, cond, List, [], ◌∷◌, eqb}

-- a list without a number
unfoldable pub without : ℕ → List ℕ → List ℕ
without n [] = []
without n (x ∷ l) = cond (eqb x n) (without n l) (x ∷ without n l)

-- of equal numbers the first one stays
unfoldable pub first_ones : List ℕ → List ℕ
first_ones [] = []
first_ones (n ∷ l) = n ∷ without n (first_ones l)
