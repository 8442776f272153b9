-- First settings, computed by hand: a store of two levels, whose node 2 says level 1 and whose node 3 says both levels.
use Rattle.std.specs.Prelude.{◌≡◌, Bool, true, false, List, [], ◌∷◌, ℤ, pos, negsuc}
use Rattle.codes.specs.Answer.{Read, value, refused}
use Rattle.store.specs.Store.{Store, slots}
use Rattle.example_walk.specs.Example.{settings, first_of, answers_as}

abbrev pub both : Store
both = slots (0 ∷ 1 ∷ 0 ∷ []) (pos 0 ∷ pos 1 ∷ pos 2 ∷ []) (pos 0 ∷ negsuc 0 ∷ negsuc 0 ∷ [])

-- an edge, a wanted answer, and the first setting
pub record FirstRow : Type 0 where
  pub edge : ℤ
  pub wanted : Bool
  pub first : Read (List Bool)

abbrev pub row : ℤ → Bool → Read (List Bool) → FirstRow
row e w r = record { edge = e; wanted = w; first = r }

abbrev pub AllFirst : List FirstRow → Type 0
AllFirst [] = Unit
AllFirst (r ∷ rs) = (first_of (answers_as both r.edge r.wanted) (settings 2) ≡ r.first) × AllFirst rs

abbrev pub first_rows : List FirstRow
first_rows =
    row (pos 3) true (value (true ∷ true ∷ []))
    ∷ row (pos 3) false (value (false ∷ false ∷ []))
    ∷ row (negsuc 2) false (value (true ∷ true ∷ []))
    -- level 0, which node 2 doesn't look at, is no
    ∷ row (pos 2) true (value (false ∷ true ∷ []))
    ∷ row (negsuc 1) true (value (false ∷ false ∷ []))
    -- node 1 has one answer
    ∷ row (pos 1) true (value (false ∷ false ∷ []))
    ∷ row (pos 1) false (refused 41)
    ∷ row (negsuc 0) true (refused 41)
    ∷ []
