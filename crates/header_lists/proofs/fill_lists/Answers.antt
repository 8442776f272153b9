use mathlib.Core.Path.{◌∙◌}
use Rattle.header_keys.specs.declared.Key.TheVariants.{Ids, Permids, Auxids}
use Rattle.support.specs.Support.{support_order}
use Rattle.header_values.specs.Values.{spans, nvars_in, u32s_in}
use Rattle.header_lists.proofs.Filling.{held-is, held-long, padded-as}
use Rattle.header_lists.proofs.fill_lists.Goals as goal

pub slice_bounds-fill_names-end : goal.slice_bounds-fill_names-end
slice_bounds-fill_names-end c =
    held-long _ _ Ids c.requires.held_list c.requires.table.1.ids_counted c.number_in-n.ensures

pub slice_bounds-fill_names-end-2 : goal.slice_bounds-fill_names-end-2
slice_bounds-fill_names-end-2 c =
    held-long _ _ Permids c.requires.held_list_2 c.requires.table.1.permids_counted c.number_in-n.ensures

pub fill_names-requires-clause-ids_listed : goal.fill_names-requires-clause-ids_listed
fill_names-requires-clause-ids_listed c =
    record {
      ids_are = (held-is _ _ Ids c.requires.held_list c.requires.table.1.ids_counted c.number_in-n.ensures);
      permids_are = (held-is _ _ Permids c.requires.held_list_2 c.requires.table.1.permids_counted c.number_in-n.ensures);
    }

pub slice_bounds-fill_order-end : goal.slice_bounds-fill_order-end
slice_bounds-fill_order-end c =
    held-long _ _ Ids c.requires.held_list c.requires.table.1.ids_counted c.number_in-n.ensures

pub slice_bounds-fill_order-end-2 : goal.slice_bounds-fill_order-end-2
slice_bounds-fill_order-end-2 c =
    held-long _ _ Permids c.requires.held_list_2 c.requires.table.1.permids_counted c.number_in-n.ensures

pub fill_order-requires-clause-ids_listed : goal.fill_order-requires-clause-ids_listed
fill_order-requires-clause-ids_listed c =
    record {
      ids_are = (held-is _ _
          Ids c.requires.held_list c.requires.table.1.ids_counted c.number_in-n.ensures);
      permids_are =
          (held-is _ _ Permids c.requires.held_list_2 c.requires.table.1.permids_counted c.number_in-n.ensures);
    }

pub returns : goal.returns
returns c =
    let n = c.fill_names.ensures in
    let f = c.args.f.now in
    let t = spans c.args.starts.now c.args.ends.now in
    record {
      order_left = padded-as (support_order (nvars_in f t) (u32s_in f t Ids) (u32s_in f t Permids)) c.fill_order.ensures.list c.fill_names.auto.from;
      auxids_left = padded-as (u32s_in f t Auxids) c.u32s_in.ensures.list (c.fill_order.auto.seats ∙ c.fill_names.auto.sizes);
      names_left = n.names_left;
      lens_left = n.lens_left;
    }
