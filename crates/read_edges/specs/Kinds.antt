-- What the answer of the reader of children stands for.
use Rattle.std.specs.Prelude.{Result, Ok, Err}
use Rattle.codes.specs.Answer.{Read, value, refused}
use Rattle.codes.specs.Refusals.{number_of}
use Rattle.codes.specs.declared.refusal.Refusal.{Refusal}
use Rattle.read_edges.specs.declared.Children.{Children}
use Rattle.read_edges.specs.Edges.{Pair, pair}

abbrev pub of_children : Result Children Refusal → Read Pair
of_children (Ok c) = value (pair c.count c.first c.second)
of_children (Err r) = refused (number_of r)
