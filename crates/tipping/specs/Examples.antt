-- Tipping points, computed by hand: a store of three levels, whose node 2 says level 2, node 3 levels 1 and 2 together, node 4 level 0 or node 3,
-- and node 5 whether levels 0 and 2 are alike.
use Rattle.std.specs.Prelude.{◌≡◌, Bool, true, false, List, [], ◌∷◌, ℕ, ℤ, pos, negsuc}
use Rattle.codes.specs.Answer.{Read, value, refused}
use Rattle.store.specs.Store.{Store, slots}
use Rattle.store.specs.Settings.{chosen}
use Rattle.tipping.specs.Tip.{tips, lowest_from}

abbrev pub three : Store
three =
    slots (0 ∷ 2 ∷ 1 ∷ 0 ∷ 0 ∷ []) (pos 0 ∷ pos 1 ∷ pos 2 ∷ pos 1 ∷ pos 2 ∷ []) (pos 0 ∷ negsuc 0 ∷ negsuc 0 ∷ pos 3 ∷ negsuc 1 ∷ [])

-- an edge, a setting, and the lowest level that tips it
pub record TipRow : Type 0 where
  pub edge : ℤ
  pub setting : List Bool
  pub lowest : Read ℕ

abbrev pub row : ℤ → List Bool → Read ℕ → TipRow
row e s r = record { edge = e; setting = s; lowest = r }

abbrev pub AllTip : List TipRow → Type 0
AllTip [] = Unit
AllTip (r ∷ rs) = (lowest_from (tips three r.edge (chosen r.setting)) 0 3 ≡ r.lowest) × AllTip rs

abbrev pub tip_rows : List TipRow
tip_rows =
    -- both are missing: no single one would do
    row (pos 3) (true ∷ false ∷ false ∷ []) (refused 42)
    -- one is missing
    ∷ row (pos 3) (true ∷ true ∷ false ∷ []) (value 2)
    ∷ row (pos 3) (true ∷ false ∷ true ∷ []) (value 1)
    -- none is: either would change it, and the lower one is given
    ∷ row (pos 3) (true ∷ true ∷ true ∷ []) (value 1)
    ∷ row (negsuc 2) (true ∷ true ∷ true ∷ []) (value 1)
    -- level 0 alone is enough; where it is yes beside the others, no single flip takes that back
    ∷ row (pos 4) (false ∷ false ∷ false ∷ []) (value 0)
    ∷ row (pos 4) (true ∷ false ∷ true ∷ []) (value 0)
    ∷ row (pos 4) (true ∷ true ∷ true ∷ []) (refused 42)
    -- every flip of a level that it looks at
    ∷ row (pos 5) (false ∷ true ∷ true ∷ []) (value 0)
    -- a level above the edge's node
    ∷ row (pos 2) (false ∷ false ∷ true ∷ []) (value 2)
    -- node 1 has one answer
    ∷ row (pos 1) (false ∷ false ∷ false ∷ []) (refused 42)
    ∷ row (negsuc 0) (true ∷ true ∷ true ∷ []) (refused 42)
    ∷ []
