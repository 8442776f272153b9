-- `dd_in` meets its contract: the place is the reader's, and that of no text where it has none.
use mathlib.Core.Path.{ap}
use Rattle.read_text.specs.Text.{place}
use Rattle.header_values.specs.Values.{value_or, dd_in}
use Rattle.header_values.proofs.dd_in.Goals as goal

pub returns-in_default : goal.returns-in_default
unfolding dd_in
returns-in_default c =
    let v = c.value_in-at.ensures in
    ap (value_or (place 0 0)) (rw (v.start, v.value) at c.in_default.ensures)

pub returns : goal.returns
unfolding dd_in
returns c =
    let v = c.value_in-at.ensures in
    ap (value_or (place 0 0)) (rw (v.start, v.value) at c.in-Ok.ensures)
