-- `put_inner` meets its contract: each child has an earlier line.
use borrow.Author.Rules.{rules}
use Rattle.store.specs.Store.{Store, then_at, else_at}
use Rattle.export_nodes.specs.Tables.{slots_of}
use Rattle.export_nodes.proofs.EdgeNumbers.{read-back}
use Rattle.export_nodes.proofs.NodeLine.{child-below}
use Rattle.export_nodes.proofs.put_inner.Goals as goal

pub put_inner-requires-2-clause-t_bound : goal.put_inner-requires-2-clause-t_bound
put_inner-requires-2-clause-t_bound c =
    let σ : Store = slots_of c.args.store.now in
    let line = c.requires.le_node.2 in
    let t = read-back (then_at σ c.args.node) (record { sfits = search rules }) in
    let e = read-back (else_at σ c.args.node) (record { sfits = search rules }) in (
      rw (read-back _ (record { sfits = c.number_of-then_line.type_inv }), c.number_of-then_line.ensures, t) (child-below _ line.then),
      rw (read-back _ (record { sfits = c.number_of-else_line.type_inv }), c.number_of-else_line.ensures, e) (child-below _ line.els),
    )
