-- Every row of the table holds: the definitions compute to what document 01 says.
use mathlib.Core.Path.{refl}
use Rattle.edges.specs.Edge.{minus}
use Rattle.writers.specs.Decimal.{digits, decimal, edge_text}
use Rattle.writers.specs.Binary.{escaped, escaped_all, groups_by, groups, seven_bit}
use Rattle.writers.specs.Examples.{AllWritten, rows}

pub examples-hold : AllWritten rows
unfolding minus digits decimal edge_text escaped escaped_all groups_by groups seven_bit
examples-hold = (refl, (refl, (refl, (refl, (refl, (refl, (refl, (refl, (refl, (refl, (refl, (refl, (refl, (refl, (refl, tt)))))))))))))))
