-- The definitions compute to what document 02 says.
use mathlib.Core.Path.{refl}
use mathlib.Core.Bool.{xor}
use Rattle.edges.specs.Edge.{turn}
use Rattle.store.specs.Meaning.{node_by, node}
use Rattle.example_walk.specs.Example.{settings, first_of}
use Rattle.example_walk.specs.Examples.{AllFirst, first_rows}

pub rows-hold : AllFirst first_rows
unfolding xor turn node_by node settings first_of
rows-hold = (refl, (refl, (refl, (refl, (refl, (refl, (refl, (refl, tt))))))))
