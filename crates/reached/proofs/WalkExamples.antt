-- Closed examples, computed from the definitions.
use mathlib.Core.Path.{◌≡◌, refl}
use mathlib.Core.List.{[], ◌∷◌}
use lib.IntN.{pos, negsuc}
use Rattle.store.specs.Store.{Store, store}
use Rattle.store.specs.Firsts.{without, first_ones}
use Rattle.reached.specs.Walk.{walk_by, walk, first_met}

-- Node 2 has then 1 and else -1, node 3 then 1 and else -2, node 4 then 3 and else 2, node 5 then 2 and else -1.
abbrev five : Store
five =
    store 0 0 [] (pos 0 ∷ pos 1 ∷ pos 1 ∷ pos 3 ∷ pos 2 ∷ []) (pos 0 ∷ negsuc 0 ∷ negsuc 1 ∷ pos 2 ∷ negsuc 0 ∷ []) [] []

-- The whole walk passes a node as often as a way leads to it, and the terminal at the end of each way.
pub walk-examples :
    (walk five [] ≡ [])
    × (walk five (pos 2 ∷ []) ≡ 2 ∷ 1 ∷ 1 ∷ [])
    × (walk five (pos 4 ∷ []) ≡ 4 ∷ 3 ∷ 1 ∷ 2 ∷ 1 ∷ 1 ∷ 2 ∷ 1 ∷ 1 ∷ [])
    × (walk five (negsuc 1 ∷ pos 1 ∷ pos 2 ∷ []) ≡ 2 ∷ 1 ∷ 1 ∷ 1 ∷ 2 ∷ 1 ∷ 1 ∷ [])
    × (first_ones (3 ∷ 1 ∷ 3 ∷ 2 ∷ 1 ∷ []) ≡ 3 ∷ 1 ∷ 2 ∷ [])
unfolding walk_by walk without first_ones
walk-examples = (refl, refl, refl, refl, refl)

-- Of the roots 4 and 5, which share node 2, the first one's walk meets it. The root 3 meets node 2 under its else, before the then of the
-- later root 5 comes to it. The terminal is met where the first way ends, after the nodes on it. A root that was met adds nothing, signs don't
-- matter, and a node that no root leads to isn't met.
pub first-examples :
    (first_met five [] ≡ [])
    × (first_met five (negsuc 0 ∷ []) ≡ 1 ∷ [])
    × (first_met five (pos 4 ∷ pos 5 ∷ []) ≡ 4 ∷ 3 ∷ 1 ∷ 2 ∷ 5 ∷ [])
    × (first_met five (pos 5 ∷ pos 4 ∷ []) ≡ 5 ∷ 2 ∷ 1 ∷ 4 ∷ 3 ∷ [])
    × (first_met five (pos 3 ∷ negsuc 4 ∷ []) ≡ 3 ∷ 1 ∷ 2 ∷ 5 ∷ [])
    × (first_met five (negsuc 2 ∷ pos 4 ∷ []) ≡ 3 ∷ 1 ∷ 2 ∷ 4 ∷ [])
    × (first_met five (pos 2 ∷ negsuc 1 ∷ pos 5 ∷ []) ≡ 2 ∷ 1 ∷ 5 ∷ [])
unfolding walk_by walk without first_ones first_met
first-examples = (refl, refl, refl, refl, refl, refl, refl)
