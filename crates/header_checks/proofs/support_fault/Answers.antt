use Rattle.header_keys.specs.declared.Key.TheVariants.{Ids, Permids}
use Rattle.header_checks.proofs.Supporting.{read_fits, read_is, read-long}
use Rattle.header_checks.proofs.support_fault.Goals as goal

pub slice_bounds-listed_fault-end : goal.slice_bounds-listed_fault-end
slice_bounds-listed_fault-end c =
    read_fits _ _ Ids c.requires.var_limit_in_bounds.0
    c.u32s_in-n.ensures.answer c.u32s_in-n.ensures.list

pub slice_bounds-listed_fault-end-2 : goal.slice_bounds-listed_fault-end-2
slice_bounds-listed_fault-end-2 c =
    read-long _ _ Ids c.requires.var_limit_in_bounds.0 c.u32s_in-n.ensures.answer c.u32s_in-n.ensures.list

pub slice_bounds-listed_fault-end-3 : goal.slice_bounds-listed_fault-end-3
slice_bounds-listed_fault-end-3 c =
    read_fits _ _ Permids c.requires.var_limit_in_bounds.1 c.u32s_in-m.ensures.answer c.u32s_in-m.ensures.list

pub slice_bounds-listed_fault-end-4 : goal.slice_bounds-listed_fault-end-4
slice_bounds-listed_fault-end-4 c =
    read-long _ _ Permids c.requires.var_limit_in_bounds.1 c.u32s_in-m.ensures.answer c.u32s_in-m.ensures.list

pub listed_fault-requires-clause-ids_listed : goal.listed_fault-requires-clause-ids_listed
listed_fault-requires-clause-ids_listed c =
    record {
      ids_are = read_is _ _ Ids c.requires.var_limit_in_bounds.0 c.u32s_in-n.ensures.answer c.u32s_in-n.ensures.list;
      permids_are = read_is _ _ Permids c.requires.var_limit_in_bounds.1 c.u32s_in-m.ensures.answer c.u32s_in-m.ensures.list;
    }
