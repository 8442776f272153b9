use native.Mathlib.Omega.{arith}
use lib.ListN.{take}
use lib.ListN.{length-take}
use Rattle.header_checks.proofs.Agreeing.{starts_long, lens_long}
use Rattle.header_lists.proofs.Filling.{starts-laid, lens-laid}
use Rattle.header_lists.proofs.gather_names.Goals as goal

pub slice_bounds-gather-end-2 : goal.slice_bounds-gather-end-2
slice_bounds-gather-end-2 c =
    omega (arith, length-take c.args.count c.args.lens.now)

pub slice_bounds-gather-end-4 : goal.slice_bounds-gather-end-4
slice_bounds-gather-end-4 c =
    starts_long _ _ c.args.key _ _ c.names_over-n.ensures.answer c.names_over-n.ensures.names_front c.names_over-n.ensures.lens_front

pub slice_bounds-gather_own-end-2 : goal.slice_bounds-gather_own-end-2
slice_bounds-gather_own-end-2 c =
    lens_long _ _ c.args.key _ _ c.names_over-n.ensures.answer c.names_over-n.ensures.names_front c.names_over-n.ensures.lens_front

pub returns : goal.returns
returns c =
    record {
      names_left = starts-laid _ _ c.args.key (take c.args.count c.args.lens.now) _
          c.names_over-n.ensures.names_front c.gather.ensures;
      lens_left = lens-laid _ _ c.args.key (take c.args.count c.args.lens.now) _
          c.names_over-n.ensures.lens_front c.gather_own.ensures;
    }
