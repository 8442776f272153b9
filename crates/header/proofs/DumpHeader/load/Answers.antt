-- `DumpHeader::load` meets its contract: the lines, the header as a whole, and the lists, each as its function left them.
use mathlib.Core.Path.{refl, sym, ap, ◌∙◌}
use native.Mathlib.Omega.{arith}
use lib.ListN.{length}
use mathlib.Core.List.{map}
use Rattle.header_keys.specs.declared.Key.TheVariants.{Ids, Permids, Auxids}
use Rattle.header_lines.specs.Kinds.{of_swept}
use Rattle.read_text.specs.Text.{start_of, len_of}
use Rattle.support.specs.Support.{support_order}
use Rattle.header_values.specs.Values.{spans, nvars_in, u32s_in}
use Rattle.header_checks.specs.Names.{variable_names_in}
use Rattle.header_checks.specs.Promises.{whole_of}
use Rattle.header_lists.proofs.Filling.{padded-as}
use Rattle.header.specs.Header.{refusal}
use Rattle.header.proofs.NoValues.{no-lists}
use Rattle.header.proofs.Answers.{promised, settled-as, found_first}
use Rattle.header.proofs.Loading.{held-settled, kept-list, kept-held, lists-room, load-leaves}
use Rattle.header.proofs.DumpHeader.load.Goals as goal

pub whole_fault-whole-requires-clause-table : goal.whole_fault-whole-requires-clause-table
whole_fault-whole-requires-clause-table c =
    c.swept_after-swept.ensures.table

pub whole_fault-whole-requires-clause-long_after : goal.whole_fault-whole-requires-clause-long_after
whole_fault-whole-requires-clause-long_after c =
    λ z. c.requires.long_after (found_first _ _ c.swept_after-swept.ensures.answer (sym c.found_in.ensures ∙ z))

pub settled-loaded-requires : goal.settled-loaded-requires
settled-loaded-requires c =
    c.swept_after-swept.ensures.table

pub fill_lists-requires-clause-table : goal.fill_lists-requires-clause-table
fill_lists-requires-clause-table c =
    let e = c.swept_after-swept.ensures in
    let g = c.whole_fault-whole.ensures in
    let d = settled-as c.args.f.now _ _ (of_swept c.swept_after-swept.result) g.answer c.settled-loaded.ensures in
    let kp = c.keep.ensures in
    let w = promised c.args.found c.args.f.now (of_swept c.swept_after-swept.result) e.answer e.within e.table e.starts_left e.ends_left refl c.found_in.ensures d kp.starts_left kp.ends_left in
    (w.1.1.1.0, held-settled c.args.found c.args.f.now _ w)

pub fill_lists-requires-clause-held_list : goal.fill_lists-requires-clause-held_list
fill_lists-requires-clause-held_list c =
    let e = c.swept_after-swept.ensures in
    let g = c.whole_fault-whole.ensures in
    let d = settled-as c.args.f.now _ _ (of_swept c.swept_after-swept.result) g.answer c.settled-loaded.ensures in
    let kp = c.keep.ensures in
    let w = promised c.args.found c.args.f.now (of_swept c.swept_after-swept.result) e.answer e.within e.table e.starts_left e.ends_left refl c.found_in.ensures d kp.starts_left kp.ends_left in
    kept-held c.args.found c.args.f.now Ids (ap (λ l. l.ids) (no-lists c.args.f.now (refusal 0 0))) _ _ _
    (of_swept c.swept_after-swept.result)
    (length c.args.ids.now) (λ z. g.ids_left (g.answer ∙ ap whole_of z)) c.whole_fault-whole.auto.ids _ _ d w kp.starts_left kp.ends_left kp.ids_left
    (λ z. (c.requires.long_after z).ids_long)

pub fill_lists-requires-clause-held_list_2 : goal.fill_lists-requires-clause-held_list_2
fill_lists-requires-clause-held_list_2 c =
    let e = c.swept_after-swept.ensures in
    let g = c.whole_fault-whole.ensures in
    let d = settled-as c.args.f.now _ _ (of_swept c.swept_after-swept.result) g.answer c.settled-loaded.ensures in
    let kp = c.keep.ensures in
    let w = promised c.args.found c.args.f.now (of_swept c.swept_after-swept.result) e.answer e.within e.table e.starts_left e.ends_left refl c.found_in.ensures d kp.starts_left kp.ends_left in
    kept-held c.args.found c.args.f.now Permids (ap (λ l. l.permids) (no-lists c.args.f.now (refusal 0 0))) _ _ _
    (of_swept c.swept_after-swept.result)
    (length c.args.permids.now) (λ z. g.permids_left (g.answer ∙ ap whole_of z)) c.whole_fault-whole.auto.permids _ _ d w kp.starts_left kp.ends_left kp.permids_left
    (λ z. (c.requires.long_after z).permids_long)

pub fill_lists-requires-clause-lists_room : goal.fill_lists-requires-clause-lists_room
fill_lists-requires-clause-lists_room c =
    let e = c.swept_after-swept.ensures in
    let g = c.whole_fault-whole.ensures in
    let d = settled-as c.args.f.now _ _ (of_swept c.swept_after-swept.result) g.answer c.settled-loaded.ensures in
    let kp = c.keep.ensures in
    let w = promised c.args.found c.args.f.now (of_swept c.swept_after-swept.result) e.answer e.within e.table e.starts_left e.ends_left refl c.found_in.ensures d kp.starts_left kp.ends_left in
    lists-room c.args.found c.args.f.now _ w _ _ _
    (λ z. (
      omega (arith, (c.requires.long_after z).others_long.names_long, c.whole_fault-whole.auto.order),
      (
        omega (arith, (c.requires.long_after z).others_long.lens_long, c.whole_fault-whole.auto.auxids),
        omega (arith, (c.requires.long_after z).others_long.lens2_long, c.whole_fault-whole.auto.lens),
      ),
    ))

pub fill_roots-requires : goal.fill_roots-requires
fill_roots-requires c =
    let e = c.swept_after-swept.ensures in
    let g = c.whole_fault-whole.ensures in
    let d = settled-as c.args.f.now _ _ (of_swept c.swept_after-swept.result) g.answer c.settled-loaded.ensures in
    let kp = c.keep.ensures in
    let w = promised c.args.found c.args.f.now (of_swept c.swept_after-swept.result) e.answer e.within e.table e.starts_left e.ends_left refl c.found_in.ensures d kp.starts_left kp.ends_left in
    w.1.1.1.0

pub names_in-requires : goal.names_in-requires
names_in-requires c =
    let e = c.swept_after-swept.ensures in
    let g = c.whole_fault-whole.ensures in
    let d = settled-as c.args.f.now _ _ (of_swept c.swept_after-swept.result) g.answer c.settled-loaded.ensures in
    let kp = c.keep.ensures in
    let w = promised c.args.found c.args.f.now (of_swept c.swept_after-swept.result) e.answer e.within e.table e.starts_left e.ends_left refl c.found_in.ensures d kp.starts_left kp.ends_left in
    (w.1.1.1.0, omega arith)

pub shape_of-ids : goal.shape_of-ids
shape_of-ids c =
    c.keep.auto.ids ∙ c.whole_fault-whole.auto.ids

pub shape_of-permids : goal.shape_of-permids
shape_of-permids c =
    c.keep.auto.permids ∙ c.whole_fault-whole.auto.permids

pub shape_of-order : goal.shape_of-order
shape_of-order c =
    c.fill_lists.auto.order ∙ c.whole_fault-whole.auto.order

pub shape_of-auxids : goal.shape_of-auxids
shape_of-auxids c =
    c.fill_lists.auto.auxids ∙ c.whole_fault-whole.auto.auxids

pub shape_of-names : goal.shape_of-names
shape_of-names c =
    c.fill_lists.auto.names ∙ c.whole_fault-whole.auto.names

pub shape_of-lens : goal.shape_of-lens
shape_of-lens c =
    c.fill_lists.auto.lens ∙ c.whole_fault-whole.auto.lens

pub returns : goal.returns
returns c =
    let e = c.swept_after-swept.ensures in
    let g = c.whole_fault-whole.ensures in
    let d = settled-as c.args.f.now _ _ (of_swept c.swept_after-swept.result) g.answer c.settled-loaded.ensures in
    let kp = c.keep.ensures in
    let w = promised c.args.found c.args.f.now (of_swept c.swept_after-swept.result) e.answer e.within e.table e.starts_left e.ends_left refl c.found_in.ensures d kp.starts_left kp.ends_left in
    let fl = c.fill_lists.ensures in
    let f = c.args.f.now in
    let t = spans c.keep.new.starts c.keep.new.ends in
    load-leaves w
    (kept-list c.args.found f Ids (ap (λ l. l.ids) (no-lists f (refusal 0 0))) _ _ _ (of_swept c.swept_after-swept.result) (length c.args.ids.now)
    (λ z. g.ids_left (g.answer ∙ ap whole_of z)) c.whole_fault-whole.auto.ids _ d w kp.starts_left kp.ends_left kp.ids_left)
    (padded-as (support_order (nvars_in f t) (u32s_in f t Ids) (u32s_in f t Permids)) fl.order_left c.whole_fault-whole.auto.order)
    (kept-list c.args.found f Permids (ap (λ l. l.permids) (no-lists f (refusal 0 0))) _ _ _ (of_swept c.swept_after-swept.result) (length c.args.permids.now)
    (λ z. g.permids_left (g.answer ∙ ap whole_of z)) c.whole_fault-whole.auto.permids _ d w kp.starts_left kp.ends_left kp.permids_left)
    (padded-as (u32s_in f t Auxids) fl.auxids_left c.whole_fault-whole.auto.auxids)
    (padded-as (map start_of (variable_names_in f t)) fl.names_left c.whole_fault-whole.auto.names)
    (padded-as (map len_of (variable_names_in f t)) fl.lens_left c.whole_fault-whole.auto.lens)
    c.fill_roots.ensures.list
    c.names_in.ensures.names_left
    c.names_in.ensures.lens_left
