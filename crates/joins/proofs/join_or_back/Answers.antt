-- `join_or_back` meets its contract: what a join has made for which there is no room is taken back.
use mathlib.Core.Path.{sym, subst}
use mathlib.Core.List.{List}
use lib.ListN.{length}
use lib.IntN.{ℤ}
use mir.ValLaws.{to_z-of_z}
use Rattle.edges.specs.Width.{edge_width}
use Rattle.store.specs.Held.{held_mut}
use Rattle.insertion.proofs.Finding.{known-lent}
use Rattle.join_cache.specs.Cache.{Cached}
use Rattle.join_cache.proofs.Lines.{cached-zeros}
use Rattle.joins.proofs.Settling.{back-asks, back-settled}
use Rattle.joins.proofs.join_or_back.Goals as goal

pub join-made-requires : goal.join-made-requires
join-made-requires c = record {
  ready = rw (to_z-of_z edge_width c.args.a c.ranges.a, to_z-of_z edge_width c.args.b c.ranges.b) c.requires.settle_asks.ready;
  known = known-lent (held_mut c.args.store.now) _ _ _ c.most_nodes.ensures c.width_for-width.ensures c.requires.settle_asks.finds;
  cached = subst (λ (x : List ℤ). Cached (held_mut c.args.store.now) x) (sym c.requires.cache_value)
      (cached-zeros (held_mut c.args.store.now) (length c.args.cache.now));
}

pub take_back-requires : goal.take_back-requires
take_back-requires c =
    let m = rw (to_z-of_z edge_width c.args.a c.ranges.a, to_z-of_z edge_width c.args.b c.ranges.b) at c.join-made.ensures.joined in
    back-asks c.args.op (held_mut c.args.store.now) _ _ c.requires.settle_asks.ready c.join-made.result _ m.answer m.store _ c.staying-to.ensures

pub returns-clause-settled : goal.returns-clause-settled
returns-clause-settled c =
    let m = rw (to_z-of_z edge_width c.args.a c.ranges.a, to_z-of_z edge_width c.args.b c.ranges.b) at c.join-made.ensures.joined in
    back-settled c.args.op (held_mut c.args.store.now) _ _ c.requires.settle_asks.ready c.join-made.result _ m.answer m.store _ c.staying-to.ensures
    _ c.take_back.ensures.back
