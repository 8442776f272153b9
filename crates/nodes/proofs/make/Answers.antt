-- `make` meets its contract: equal children are the first way of its definition, and the minus of the then goes to the else and to the
-- result.
use native.Mathlib.Omega.{arith}
use mir.ValLaws.{to_z-of_z}
use Rattle.std.specs.Prelude.{Some, None}
use Rattle.edges.specs.Width.{edge_width}
use Rattle.store.specs.Held.{held_mut}
use Rattle.nodes.proofs.Opposite.{turned-back, edge-again, insert-edge, edge-turned, none-turned, made-child, made-turned}
use Rattle.nodes.proofs.make.Goals as goal

pub returns-then-same-clause-made : goal.returns-then-same-clause-made
returns-then-same-clause-made c =
    let t = to_z-of_z edge_width c.args.t c.ranges.t in
    let e = to_z-of_z edge_width c.args.e c.ranges.e in
    made-child (held_mut c.args.store.now) _ c.args.t c.args.e _ _ _ (rw (t, e) at c.same.ensures) c.if-same.true c.requires.known _ t

pub returns-in_err-made-clause-made : goal.returns-in_err-made-clause-made
returns-in_err-made-clause-made c =
    let t = to_z-of_z edge_width c.args.t c.ranges.t in
    let e = to_z-of_z edge_width c.args.e c.ranges.e in
    let z = c.requires.rules.sizes.count_limit in
    rw c.from_residual.ensures
    (made-turned (held_mut c.args.store.now) _ c.args.t c.args.e _ _ _ (rw (t, e) at c.same.ensures) c.if-same.false _ (rw t at c.is_minus-minus.ensures)
    _ _ (turned-back _ c.args.t (omega (arith, z, c.requires.children.then_there)) _ c.complement-a.ensures)
    (turned-back _ c.args.e (omega (arith, z, c.requires.children.else_there)) _ c.complement-b.ensures) _
    None None c.in_err-made.ensures.made (none-turned _))

pub complement-requires : goal.complement-requires
complement-requires c =
    edge-again c.in_ok-made.made (insert-edge (held_mut c.args.store.now) _ _ _ c.requires.rules.sizes c.in_ok-made.made c.in_ok-made.ensures.made.answer)

pub returns-clause-made : goal.returns-clause-made
returns-clause-made c =
    let t = to_z-of_z edge_width c.args.t c.ranges.t in
    let e = to_z-of_z edge_width c.args.e c.ranges.e in
    let z = c.requires.rules.sizes.count_limit in
    made-turned (held_mut c.args.store.now) _ c.args.t c.args.e _ _ _ (rw (t, e) at c.same.ensures) c.if-same.false _ (rw t at c.is_minus-minus.ensures)
    _ _ (turned-back _ c.args.t (omega (arith, z, c.requires.children.then_there)) _ c.complement-a.ensures)
    (turned-back _ c.args.e (omega (arith, z, c.requires.children.else_there)) _ c.complement-b.ensures) _
    (Some c.in_ok-made.made) (Some _) c.in_ok-made.ensures.made
    (edge-turned _ _ _ (insert-edge (held_mut c.args.store.now) _ _ _ c.requires.rules.sizes c.in_ok-made.made c.in_ok-made.ensures.made.answer)
    c.complement.ensures)
