use mathlib.Core.Path.{◌≡◌, ◌∙◌}
use native.Mathlib.Omega.{arith}
use lib.ListN.{length, take}
use lib.ListN.{length-take}
use Rattle.header_lists.proofs.Filling.{permids_few, order-laid}
use Rattle.header_lists.proofs.fill_order.Goals as goal

pub slice_bounds-arrange-end-2 : goal.slice_bounds-arrange-end-2
slice_bounds-arrange-end-2 c =
    omega (arith, length-take c.number_in-n.result c.args.seats.now)

pub arrange-requires : goal.arrange-requires
arrange-requires c =
    permids_few _ _ c.requires.ids_listed

pub returns : goal.returns
returns c =
    let v : length (take c.number_in-n.result c.args.seats.now) ≡ c.number_in-n.result = omega (arith, length-take c.number_in-n.result c.args.seats.now) in
    record {
      list = order-laid _ _ (v ∙ c.number_in-n.ensures) c.requires.ids_listed _ (length c.args.dst.now)
          (c.fill.ensures.after (λ y h. h)) c.arrange.ensures.list;
    }
