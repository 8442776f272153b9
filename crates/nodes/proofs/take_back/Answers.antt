-- `take_back` meets its contract: each turn of the loop takes the newest node back, and the rules are kept on the way; the count falls, so
-- it ends.
use Rattle.store.specs.Held.{held_mut}
use Rattle.store.proofs.Held.{same-on}
use Rattle.slots.proofs.Placed.{return-more, return-less, return-end}
use Rattle.nodes.proofs.take_back.Goals as goal

pub loop-store-smaller : goal.loop-store-smaller
loop-store-smaller c = return-less _ _ _ (held_mut c.loop-store.store) c.loop-store.invariant.on_the_way c.loop-store-test.true _ c.drop_node.ensures.dropped

pub loop-store-preserved : goal.loop-store-preserved
loop-store-preserved c = record {
  on_the_way = return-more _ _ _ _ c.loop-store.invariant.on_the_way c.requires.some c.loop-store-test.true _ c.drop_node.ensures.dropped;
  same = same-on c.loop-store.invariant.same c.drop_node.ensures.same;
}

pub returns-clause-back : goal.returns-clause-back
returns-clause-back c = record { store = return-end _ _ _ _ c.loop-store.invariant.on_the_way c.loop-store-test.false }
