-- `make_over` meets its contract: equal sides are the first way of making a node.
use borrow.Author.Rules.{rules}
use mir.ValLaws.{to_z-of_z}
use Rattle.edges.specs.Width.{edge_width}
use Rattle.store.specs.Held.{held_mut}
use Rattle.joining.proofs.Equal.{same_edge, equal-made}
use Rattle.joining.proofs.make_over.Goals as goal

pub returns-then-pair-els-clause-made : goal.returns-then-pair-els-clause-made
returns-then-pair-els-clause-made c =
    equal-made (held_mut c.args.store.now) _ _ _ _ c.args.els (same_edge _ c.args.els (search rules) c.ranges.els c.if-pair-els.true) c.requires.known
    _ (to_z-of_z edge_width c.args.els c.ranges.els)
