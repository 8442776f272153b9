-- `plan_levels` meets its contract: the header is loaded, and its permids give the level list.
use mathlib.Core.Path.{refl}
use Rattle.header.proofs.Lengths.{length-may, zeros-long}
use Rattle.recoding.proofs.Planned.{permids-fit, permids_long, list-may, count_fits, plans, plans-none}
use Rattle.recoding.proofs.plan_levels.Goals as goal

pub load-requires-clause-may_read : goal.load-requires-clause-may_read
load-requires-clause-may_read c =
    length-may 0 c.args.f.now c.length_fault-found.ensures

pub load-requires-clause-long_after : goal.load-requires-clause-long_after
load-requires-clause-long_after c =
    λ z. record {
      ids_long = zeros-long;
      permids_long = zeros-long;
      others_long = record { names_long = zeros-long; lens_long = zeros-long; names2_long = zeros-long; lens2_long = zeros-long };
    }

pub returns-in-Err : goal.returns-in-Err
returns-in-Err c =
    let p = plans-none _ _ c.length_fault-found.ensures _ c.in-Err.ensures.answer c.args.list.now in
    record { value = p.0; list_after = p.1 }

pub slice_bounds-permids-end : goal.slice_bounds-permids-end
slice_bounds-permids-end c =
    let e = c.in-Ok.ensures in permids-fit _ _ c.length_fault-found.ensures _ e.answer _ refl _ e.permids_left

pub slice_bounds-level_list-end : goal.slice_bounds-level_list-end
slice_bounds-level_list-end c =
    let e = c.in-Ok.ensures in permids_long _ _ c.length_fault-found.ensures _ e.answer _ refl _ e.permids_left

pub level_list-n-requires : goal.level_list-n-requires
level_list-n-requires c =
    let e = c.in-Ok.ensures in list-may _ _ c.length_fault-found.ensures _ e.answer _ refl _ e.permids_left

pub overflow_cast-result : goal.overflow_cast-result
overflow_cast-result c =
    let e = c.in-Ok.ensures in record { fits = count_fits _ _ c.length_fault-found.ensures _ e.answer _ refl _ e.permids_left }

pub returns : goal.returns
returns c =
    let e = c.in-Ok.ensures in
    let n = c.level_list-n.ensures in
    let p = plans _ _ c.length_fault-found.ensures _ e.answer _ refl _ e.permids_left _ _ c.args.list.now n.value n.list_after in
    record { value = p.0; list_after = p.1 }
