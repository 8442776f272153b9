-- `join_roots` meets its contract: refused before any node is made, or joined.
use mathlib.Core.Path.{refl, sym, subst}
use lib.ListN.{length}
use mir.ValLaws.{to_z-of_z}
use Rattle.std.proofs.lemmas.Result.{err_from_is_err_and}
use Rattle.edges.specs.Width.{edge_width}
use Rattle.store.specs.Held.{held_mut}
use Rattle.unique_table.specs.Index.{Finds, width_for}
use Rattle.slots.specs.Most.{most_nodes}
use Rattle.joins.proofs.Calling.{fault-ready, roots-refused, roots-joined}
use Rattle.joins.proofs.join_roots.Goals as goal

pub returns-in_err-join_fault-clause-joined : goal.returns-in_err-join_fault-clause-joined
returns-in_err-join_fault-clause-joined c =
    let p = err_from_is_err_and c.from_residual.result c.from_residual.ensures.1 in
    let f = rw (c.as_ref.ensures, to_z-of_z edge_width c.args.a c.ranges.a, to_z-of_z edge_width c.args.b c.ranges.b)
    at c.in_err-join_fault.ensures in
    rw (p.1, p.2) (roots-refused c.args.op (held_mut c.args.store.now) _ _ _ f.fault)

pub join_by-made-requires-clause-settle_asks : goal.join_by-made-requires-clause-settle_asks
join_by-made-requires-clause-settle_asks c =
    let f = rw (c.as_ref.ensures, to_z-of_z edge_width c.args.a c.ranges.a, to_z-of_z edge_width c.args.b c.ranges.b)
    at c.in_ok-join_fault.ensures in
    rw (to_z-of_z edge_width c.args.a c.ranges.a, to_z-of_z edge_width c.args.b c.ranges.b) (record {
      ready = fault-ready c.args.op (held_mut c.args.store.now) _ _ f.fault;
      finds = subst (λ n. Finds (width_for (most_nodes (length c.args.store.now.level.now)) n) (held_mut c.args.store.now) c.args.store.now.count
          c.join_fault.new.work)
          (sym c.join_fault.auto.work) (f.finds refl);
    })

pub returns-clause-joined : goal.returns-clause-joined
returns-clause-joined c =
    let f = rw (c.as_ref.ensures, to_z-of_z edge_width c.args.a c.ranges.a, to_z-of_z edge_width c.args.b c.ranges.b)
    at c.in_ok-join_fault.ensures in
    rw c.ok_or.ensures.value
    (roots-joined c.args.op (held_mut c.args.store.now) _ _ f.fault _ c.join_by-made.result
    (rw (to_z-of_z edge_width c.args.a c.ranges.a, to_z-of_z edge_width c.args.b c.ranges.b) at c.join_by-made.ensures.settled))
