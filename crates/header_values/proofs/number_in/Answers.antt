-- `number_in` meets its contract: the number is the reader's, and 0 where it has none.
use mathlib.Core.Path.{ap, ◌∙◌}
use Rattle.header_values.specs.Values.{value_or, number_in}
use Rattle.header_values.proofs.number_in.Goals as goal

pub returns-in_default : goal.returns-in_default
unfolding number_in
returns-in_default g c =
    c.narrowed.ensures ∙ ap (value_or 0) (rw c.value_in.ensures.value at c.in_default.ensures)

pub returns : goal.returns
unfolding number_in
returns g c =
    ap (value_or 0) (rw c.value_in.ensures.value at c.in-Ok.ensures)
