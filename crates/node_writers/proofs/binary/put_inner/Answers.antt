-- `put_inner` meets its contract: the byte of the codes, and the number after each of them.
use mathlib.Core.List.{List}
use mathlib.Core.Path.{◌≡◌, ap, ◌∙◌}
use native.Mathlib.Omega.{arith}
use Prim.Native.Nat.{ℕ}
use lib.ListN.{length}
use lib.IntN.{nat_abs}
use mir.Facts.{to_z-of_z}
use Rattle.edges.specs.Edge.{minus}
use Rattle.node_writers.specs.Encoded.{inner_bytes}
use Rattle.node_writers.proofs.Parts.{joined, total, length-joined, none, then, wrote-all}
use Rattle.node_writers.proofs.LineBytes.{inner_parts, bytes-inner}
use Rattle.node_writers.proofs.binary.put_inner.Goals.{After-node_code-code}
use Rattle.node_writers.proofs.binary.put_inner.Goals as goal

-- The line is the byte of the codes and the three numbers.
abbrev parts : After-node_code-code → List (List ℕ)
parts c =
    inner_parts c.args.n c.args.p c.args.seat c.magnitude-then.result c.magnitude-els.result c.variable_code-variable_by.result c.child_code-then_by.result
    c.child_code-else_by.result c.node_code-code.result

line : (c : After-node_code-code) → inner_bytes c.args.n c.args.p c.args.t c.args.e c.args.seat ≡ joined (parts c)
line c =
    bytes-inner _ _ _ _ _ _ _ _ _ c.args.t c.args.e c.is_minus.result
    (c.magnitude-then.ensures ∙ ap nat_abs (to_z-of_z c.ranges.t)) (c.magnitude-els.ensures ∙ ap nat_abs (to_z-of_z c.ranges.e))
    c.variable_code-variable_by.ensures c.child_code-then_by.ensures c.child_code-else_by.ensures
    (c.is_minus.ensures ∙ ap minus (to_z-of_z c.ranges.e)) c.node_code-code.ensures

long : (c : After-node_code-code) → length (inner_bytes c.args.n c.args.p c.args.t c.args.e c.args.seat) ≡ total (parts c)
long c = rw (line c) (length-joined (parts c))

pub write_escaped-variable_at-requires : goal.write_escaped-variable_at-requires
write_escaped-variable_at-requires c = omega (arith, long (goal.at.write_escaped-variable_at-requires c).After-node_code-code)

pub put_number-then_at-requires : goal.put_number-then_at-requires
put_number-then_at-requires c = rw c.distance.ensures (omega (arith, long (goal.at.put_number-then_at-requires c).After-node_code-code))

pub put_number-else_at-requires : goal.put_number-else_at-requires
put_number-else_at-requires c =
    let v = rw c.distance.ensures at c.put_number-then_at.ensures in
    omega (arith, long (goal.at.put_number-else_at-requires c).After-node_code-code)

pub put_number-requires : goal.put_number-requires
put_number-requires c =
    let v = rw c.distance.ensures at c.put_number-then_at.ensures in
    omega (arith, long (goal.at.put_number-requires c).After-node_code-code)

pub returns : goal.returns
returns c =
    let v = rw c.distance.ensures at c.put_number-then_at.ensures in
    let s = (goal.at.returns c).After-node_code-code in
    rw (line s)
    (wrote-all (parts s)
    (then c.write_escaped-variable_at.ensures
    (then v (then c.put_number-else_at.ensures (then c.put_number.ensures none)))))
