-- The definitions compute to what document 02 says.
use mathlib.Core.Path.{refl}
use mathlib.Core.Bool.{xor}
use Rattle.edges.specs.Edge.{turn}
use Rattle.store.specs.Meaning.{node_by, node}
use Rattle.tipping.specs.Tip.{lowest_from}
use Rattle.tipping.specs.Examples.{tip_rows, AllTip}

pub rows-tip : AllTip tip_rows
unfolding xor turn node_by node lowest_from
rows-tip = (refl, (refl, (refl, (refl, (refl, (refl, (refl, (refl, (refl, (refl, (refl, (refl, tt))))))))))))
