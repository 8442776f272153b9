-- `is_utf8` meets its contract. The loop's invariant: what is left of the bytes, read on from the state, gives the answer for all of
-- them.
use mathlib.Core.Path.{◌≡◌}
use lib.ListN.{drop}
use Rattle.codes.specs.Machine.{run}
use Rattle.read_text.specs.Text.{utf8_next, utf8_end, is_utf8}
use Rattle.read_text.proofs.is_utf8.Given as goal

abbrev pub invariant-loop-b : goal.invariant-loop-b
invariant-loop-b l =
    is_utf8 l.input ≡ run utf8_next utf8_end l.state (drop l.b-index l.input)
