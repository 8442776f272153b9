-- `meet_all` meets its contract. The invariant: the nodes of the roots before the index lie in the lent list and are marked.
use mathlib.Core.Path.{◌≡◌, refl, ◌∙◌}
use lib.ListN.{get_or}
use lib.IntN.{nat_abs, pos}
use borrow.Author.Rules.{rules}
use Rattle.edges.specs.Width.{edge_width}
use Rattle.edges.proofs.Signed.{abs-back}
use Rattle.reached.proofs.RootWalk.{roots-start, roots-next, roots-more}
use Rattle.reached.proofs.meet_all.Goals.{After-magnitude}
use Rattle.reached.proofs.meet_all.Goals as goal

-- The root's magnitude is its node.
node : (c : After-magnitude) → c.magnitude.result ≡ nat_abs (get_or c.args.roots.now c.loop-root.root-index (pos 0))
node c = c.magnitude.ensures ∙ abs-back edge_width (get_or c.args.roots.now c.loop-root.root-index (pos 0)) (record { sfits = search rules })

pub loop-root-init : goal.loop-root-init
loop-root-init c = (roots-start _ _ _ _ c.requires.met_value.1, refl)

pub meet-at-requires : goal.meet-at-requires
meet-at-requires c =
    let l = c.loop-root in
    roots-next l.invariant.0 c.requires.walks c.loop-root-test.true (node (goal.at.meet-at-requires c).After-magnitude) l.invariant.1

pub loop-root-preserved : goal.loop-root-preserved
loop-root-preserved c =
    let l = c.loop-root in
    let k = c.meet-at in (
      roots-more l.invariant.0 c.requires.walks c.loop-root-test.true (node (goal.at.loop-root-preserved c).After-magnitude) k.ensures,
      k.auto.marks ∙ l.invariant.1,
    )
