-- `fill_roots` meets its contract: the roots are the front of the list that they were read into.
use lib.ListN.{length}
use Rattle.header_lists.proofs.Filling.{roots_do_fit, roots_long, roots-laid}
use Rattle.header_lists.proofs.fill_roots.Goals as goal

pub slice_bounds-roots-end : goal.slice_bounds-roots-end
slice_bounds-roots-end c =
    roots_do_fit _ _ c.roots_in-n.new.dst c.roots_in-n.ensures.answer c.roots_in-n.auto.dst

pub slice_bounds-edges_of-end : goal.slice_bounds-edges_of-end
slice_bounds-edges_of-end c =
    roots_long _ _ _ c.roots_in-n.ensures.answer c.roots_in-n.ensures.front

pub returns : goal.returns
returns c =
    record {
      list = roots-laid _ _ _ c.roots_in-n.ensures.answer c.roots_in-n.ensures.front
          (length c.args.dst.now) (c.fill.ensures.after (λ y h. h)) c.edges_of.ensures;
    }
