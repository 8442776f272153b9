-- `at_position` meets its contract: children without a fault are edges.
use mathlib.Core.Path.{◌≡◌}
use native.Mathlib.Omega.{arith}
use mir.Syntax.{w64}
use Rattle.std.proofs.Common.{Some}
use Rattle.edges.specs.Width.{edge_width}
use Rattle.import_ascii.proofs.Faults.{position-read}
use Rattle.import_ascii.proofs.at_position.Goals as goal

pub returns : goal.returns
returns c =
    let a = c.args in
    let s : c.get.result ≡ Some c.in_ok-level.field-0 = grind arith in
    let k = rw s at c.get.ensures.lookup in
    position-read a.levels.now a.seats.now a.node a.p a.t a.e k.3.0 w64 edge_width (omega arith) c.requires.2 (k.3.1 0) c.ranges.t c.ranges.e
    c.in_ok-child_fault.ensures c.in_ok-child_fault-2.ensures c.edge_of.ensures c.edge_of-2.ensures
