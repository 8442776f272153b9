-- Closed examples of joins, computed from the definitions. The stores have no chains, which a join doesn't look at.
use mathlib.Core.Path.{◌≡◌, refl}
use mathlib.Core.Bool.{xor}
use mathlib.Core.List.{[], ◌∷◌}
use lib.IntN.{pos, negsuc}
use Rattle.codes.specs.Answer.{value}
use Rattle.codes.specs.Limits.{limits}
use Rattle.edges.specs.Edge.{minus, turn, eq_z}
use Rattle.store.specs.Store.{Store, store}
use Rattle.store.specs.Make.{Made, made, full, find_up_to, find, added, insert, make}
use Rattle.store.specs.Firsts.{without, first_ones}
use Rattle.joined.specs.declared.Op.TheVariants as op
use Rattle.joined.specs.Join.{apply, side, top, join_by, join_of}
use Rattle.joined.specs.Order.{nodes_by, nodes_under, lacked, next_numbers, InOrder}

-- Of three levels node 2 is the variable of level 1, node 3 at level 0 has then 2 and else -2, and node 4 is the variable of level 2.
abbrev three : Store
three = store 3 4 (0 ∷ 1 ∷ 0 ∷ 2 ∷ 0 ∷ 0 ∷ 0 ∷ []) (pos 0 ∷ pos 1 ∷ pos 2 ∷ pos 1 ∷ pos 0 ∷ pos 0 ∷ pos 0 ∷ [])
    (pos 0 ∷ negsuc 0 ∷ negsuc 1 ∷ negsuc 0 ∷ pos 0 ∷ pos 0 ∷ pos 0 ∷ []) [] []

abbrev three_joined : Made
three_joined = join_of limits op.And three (pos 3) (pos 4)

-- 'then side first, each after its children': node 5 is under then, node 6 under else, and node 7 comes after both.
pub three-example :
    (three_joined.answer ≡ value (pos 7))
    × (three_joined.after.level ≡ 0 ∷ 1 ∷ 0 ∷ 2 ∷ 1 ∷ 1 ∷ 0 ∷ [])
    × (three_joined.after.then ≡ pos 0 ∷ pos 1 ∷ pos 2 ∷ pos 1 ∷ pos 4 ∷ pos 1 ∷ pos 5 ∷ [])
    × (three_joined.after.els ≡ pos 0 ∷ negsuc 0 ∷ negsuc 1 ∷ negsuc 0 ∷ negsuc 0 ∷ negsuc 3 ∷ negsuc 5 ∷ [])
    × (nodes_under three_joined.after (pos 7) ≡ 1 ∷ 1 ∷ 4 ∷ 1 ∷ 5 ∷ 1 ∷ 1 ∷ 1 ∷ 4 ∷ 6 ∷ 7 ∷ [])
    × InOrder three three_joined.after (pos 7)
unfolding minus turn eq_z find_up_to find added insert make without first_ones apply side top join_by join_of nodes_by nodes_under lacked next_numbers
three-example = (refl, refl, refl, refl, refl, refl)

-- Of four levels nodes 2, 3 and 5 are the variables of levels 1, 2 and 3, and node 4 at level 0 has then 2 and else 3.
abbrev four : Store
four = store 4 5 (0 ∷ 1 ∷ 2 ∷ 0 ∷ 3 ∷ 0 ∷ 0 ∷ 0 ∷ []) (pos 0 ∷ pos 1 ∷ pos 1 ∷ pos 2 ∷ pos 1 ∷ pos 0 ∷ pos 0 ∷ pos 0 ∷ [])
    (pos 0 ∷ negsuc 0 ∷ negsuc 0 ∷ pos 3 ∷ negsuc 0 ∷ pos 0 ∷ pos 0 ∷ pos 0 ∷ []) [] []

abbrev four_joined : Made
four_joined = join_of limits op.And four (pos 4) (pos 5)

-- Node 6 at level 1 is under then, and comes before node 7 at level 2 under else: a deeper level doesn't come first.
pub four-example :
    (four_joined.answer ≡ value (pos 8))
    × (four_joined.after.level ≡ 0 ∷ 1 ∷ 2 ∷ 0 ∷ 3 ∷ 1 ∷ 2 ∷ 0 ∷ [])
    × (four_joined.after.then ≡ pos 0 ∷ pos 1 ∷ pos 1 ∷ pos 2 ∷ pos 1 ∷ pos 5 ∷ pos 5 ∷ pos 6 ∷ [])
    × (four_joined.after.els ≡ pos 0 ∷ negsuc 0 ∷ negsuc 0 ∷ pos 3 ∷ negsuc 0 ∷ negsuc 0 ∷ negsuc 0 ∷ pos 7 ∷ [])
    × InOrder four four_joined.after (pos 8)
unfolding minus turn eq_z find_up_to find added insert make without first_ones apply side top join_by join_of nodes_by nodes_under lacked next_numbers
four-example = (refl, refl, refl, refl, refl)

-- Of two levels nodes 2 and 3 are the variables.
abbrev two : Store
two = store 2 3 (0 ∷ 0 ∷ 1 ∷ []) (pos 0 ∷ pos 1 ∷ pos 1 ∷ []) (pos 0 ∷ negsuc 0 ∷ negsuc 0 ∷ []) [] []

-- '40 only where those nodes don't fit': joins that need no node are made, and one that needs a node isn't.
pub full-examples :
    (join_of limits op.And two (pos 2) (negsuc 1) ≡ made (negsuc 0) two)
    × (join_of limits op.Or two (pos 2) (pos 2) ≡ made (pos 2) two)
    × (join_of limits op.Xor two (negsuc 2) (pos 1) ≡ made (pos 3) two)
    × (join_of limits op.And two (pos 2) (pos 3) ≡ full two)
unfolding minus turn eq_z find_up_to find insert make apply side top join_by join_of xor
full-examples = (refl, refl, refl, refl)
