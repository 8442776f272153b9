use mathlib.Core.Path.{◌≡◌, refl, sym, ◌∙◌}
use native.Mathlib.Omega.{arith}
use lib.ListN.{length, take}
use mathlib.Core.Logic.{inl, inr}
use lib.ListN.{length-take}
use Rattle.header_lists.proofs.Filling.{permids-below, ids_few, permids_few, supp-laid, ordered-laid}
use Rattle.header_lists.proofs.seat_names.Goals as goal

pub slice_bounds-ordered_seats-end-then-count_names-ne0 : goal.slice_bounds-ordered_seats-end-then-count_names-ne0
slice_bounds-ordered_seats-end-then-count_names-ne0 c =
    omega (arith, length-take c.number_in-n.result c.args.seats.now)

pub slice_bounds-ordered_seats-end-then-count_names-ne0-3 : goal.slice_bounds-ordered_seats-end-then-count_names-ne0-3
slice_bounds-ordered_seats-end-then-count_names-ne0-3 c =
    omega (arith, length-take c.number_in-n.result c.args.free.now)

pub ordered_seats-requires-clause-seats_len_bound : goal.ordered_seats-requires-clause-seats_len_bound
ordered_seats-requires-clause-seats_len_bound c = (
  omega (arith, length-take c.number_in-n.result c.args.seats.now),
  ids_few _ _ c.requires.ids_listed,
  permids_few _ _ c.requires.ids_listed,
)

pub ordered_seats-requires-clause-below : goal.ordered_seats-requires-clause-below
ordered_seats-requires-clause-below c = (
  permids-below _ _ c.requires.table.1 c.requires.ids_listed,
  omega (arith, length-take c.number_in-n.result c.args.seats.now, length-take c.number_in-n.result c.args.free.now),
)

pub returns-then-count_names-ne0 : goal.returns-then-count_names-ne0
returns-then-count_names-ne0 c =
    let v : length (take c.number_in-n.result c.args.seats.now) ≡ c.number_in-n.result
    = omega (arith, length-take c.number_in-n.result c.args.seats.now) in
    record {
      seated = inl (
        refl,
        (
          (λ q. c.if-count_names-ne0.true (c.count_names.ensures ∙ q)),
          ordered-laid _ _ (v ∙ c.number_in-n.ensures) c.requires.ids_listed _ c.ordered_seats.ensures.list,
        ),
      );
    }

pub slice_bounds-supp_seats-end-2 : goal.slice_bounds-supp_seats-end-2
slice_bounds-supp_seats-end-2 c =
    omega (arith, length-take c.number_in-n.result c.args.seats.now)

pub supp_seats-requires : goal.supp_seats-requires
supp_seats-requires c = (
  omega (arith, length-take c.number_in-n.result c.args.seats.now),
  ids_few _ _ c.requires.ids_listed,
)

pub returns : goal.returns
returns c =
    let v : length (take c.number_in-n.result c.args.seats.now) ≡ c.number_in-n.result = omega (arith, length-take c.number_in-n.result c.args.seats.now) in
    record {
      seated = inr (
        refl,
        (
          sym c.count_names.ensures ∙ c.if-count_names-ne0.false,
          supp-laid _ _ (v ∙ c.number_in-n.ensures) c.requires.ids_listed _ c.supp_seats.ensures.list,
        ),
      );
    }
