use Rattle.header_keys.specs.declared.Key.TheVariants.{Orderedvarnames, Suppvarnames}
use Rattle.header_checks.proofs.Agreeing.{names-room, starts_fit, lens-fit, starts_long, lens_long, names-held}
use Rattle.header_checks.proofs.names.ordered_fault.Goals as goal

pub names_over-n-requires-clause-key_in_bounds : goal.names_over-n-requires-clause-key_in_bounds
names_over-n-requires-clause-key_in_bounds c =
    names-room _ _ _ c.args.names.now c.requires.long_names.names_long

pub names_over-n-requires-clause-key_in_bounds_2 : goal.names_over-n-requires-clause-key_in_bounds_2
names_over-n-requires-clause-key_in_bounds_2 c =
    names-room _ _ _ c.args.lens.now c.requires.long_names.lens_long

pub names_over-m-requires-clause-key_in_bounds : goal.names_over-m-requires-clause-key_in_bounds
names_over-m-requires-clause-key_in_bounds c =
    names-room _ _ _ c.args.names2.now c.requires.long_names.names2_long

pub names_over-m-requires-clause-key_in_bounds_2 : goal.names_over-m-requires-clause-key_in_bounds_2
names_over-m-requires-clause-key_in_bounds_2 c =
    names-room _ _ _ c.args.lens2.now c.requires.long_names.lens2_long

pub slice_bounds-given_names_fault-end : goal.slice_bounds-given_names_fault-end
slice_bounds-given_names_fault-end c =
    starts_fit _ _ Orderedvarnames _ _ c.names_over-n.ensures.answer c.names_over-n.ensures.names_front c.names_over-n.ensures.lens_front

pub slice_bounds-given_names_fault-end-2 : goal.slice_bounds-given_names_fault-end-2
slice_bounds-given_names_fault-end-2 c =
    starts_long _ _ Orderedvarnames _ _ c.names_over-n.ensures.answer c.names_over-n.ensures.names_front c.names_over-n.ensures.lens_front

pub slice_bounds-given_names_fault-end-3 : goal.slice_bounds-given_names_fault-end-3
slice_bounds-given_names_fault-end-3 c =
    lens-fit _ _ Orderedvarnames _ _ c.names_over-n.ensures.answer c.names_over-n.ensures.names_front c.names_over-n.ensures.lens_front

pub slice_bounds-given_names_fault-end-4 : goal.slice_bounds-given_names_fault-end-4
slice_bounds-given_names_fault-end-4 c =
    lens_long _ _ Orderedvarnames _ _ c.names_over-n.ensures.answer c.names_over-n.ensures.names_front c.names_over-n.ensures.lens_front

pub slice_bounds-given_names_fault-end-5 : goal.slice_bounds-given_names_fault-end-5
slice_bounds-given_names_fault-end-5 c =
    starts_fit _ _ Suppvarnames _ _ c.names_over-m.ensures.answer c.names_over-m.ensures.names_front c.names_over-m.ensures.lens_front

pub slice_bounds-given_names_fault-end-6 : goal.slice_bounds-given_names_fault-end-6
slice_bounds-given_names_fault-end-6 c =
    starts_long _ _ Suppvarnames _ _ c.names_over-m.ensures.answer c.names_over-m.ensures.names_front c.names_over-m.ensures.lens_front

pub slice_bounds-given_names_fault-end-7 : goal.slice_bounds-given_names_fault-end-7
slice_bounds-given_names_fault-end-7 c =
    lens-fit _ _ Suppvarnames _ _ c.names_over-m.ensures.answer c.names_over-m.ensures.names_front c.names_over-m.ensures.lens_front

pub slice_bounds-given_names_fault-end-8 : goal.slice_bounds-given_names_fault-end-8
slice_bounds-given_names_fault-end-8 c =
    lens_long _ _ Suppvarnames _ _ c.names_over-m.ensures.answer c.names_over-m.ensures.names_front c.names_over-m.ensures.lens_front

pub given_names_fault-requires-clause-names_held : goal.given_names_fault-requires-clause-names_held
given_names_fault-requires-clause-names_held c =
    names-held _ _ Orderedvarnames _ _ c.names_over-n.ensures.answer c.names_over-n.ensures.names_front c.names_over-n.ensures.lens_front

pub given_names_fault-requires-clause-names_held_2 : goal.given_names_fault-requires-clause-names_held_2
given_names_fault-requires-clause-names_held_2 c =
    names-held _ _ Suppvarnames _ _ c.names_over-m.ensures.answer c.names_over-m.ensures.names_front c.names_over-m.ensures.lens_front
