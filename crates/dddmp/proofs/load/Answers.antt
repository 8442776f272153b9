-- `load` meets its contract: what the functions of the stages promise, put together by the laws of `Loading`.
use mathlib.Core.Path.{refl, ap, subst, ◌∙◌}
use mathlib.Core.List.{map}
use lib.ListN.{length, replicate}
use Rattle.read_text.specs.Text.{start_of, len_of}
use Rattle.store.specs.Store.{Store}
use Rattle.store.specs.Held.{held, held_mut}
use Rattle.header.specs.Kinds.{of_loaded}
use Rattle.header.proofs.Lengths.{length-may, lists-long}
use Rattle.stages.specs.Stages.{Searchable}
use Rattle.calls.specs.Load.{parts}
use Rattle.dddmp.proofs.Loading.{parts-alike, lists-none, before-is, ready-readable, answer-left, store-left, roots_left, list_left}
use Rattle.dddmp.proofs.Searched.{ready-searchable}
use Rattle.dddmp.proofs.load.Goals as goal

pub load-read-requires-clause-may_read : goal.load-read-requires-clause-may_read
load-read-requires-clause-may_read c =
    length-may _ c.args.f.now c.length_fault-before.ensures

pub load-read-requires-clause-long_after : goal.load-read-requires-clause-long_after
load-read-requires-clause-long_after c =
    λ z. lists-long c.args.ids.now c.args.permids.now c.args.order.now c.args.auxids.now c.args.names.now c.args.lens.now _
    (lists-none _ _ c.lists_fault-lists.ensures c.store_fault-found.ensures.fault c.length_fault-before.ensures z)

pub load_nodes-answer-requires-clause-readable : goal.load_nodes-answer-requires-clause-readable
load_nodes-answer-requires-clause-readable c =
    let p = parts c.args.ids.now c.args.order.now c.args.permids.now c.args.auxids.now c.args.names.now c.args.lens.now c.args.roots.now c.args.rootnames.now
    c.args.rootlens.now c.args.edges.now c.args.seats.now in
    let found = rw c.as_ref-now.ensures at c.store_fault-found.ensures.fault in
    let b = before-is c.args.f.now c.args.list.now p (held_mut c.args.store.now) _ _ _ c.lists_fault-lists.ensures found c.length_fault-before.ensures in
    ready-readable c.args.f.now c.args.list.now p (held_mut c.args.store.now) _ b _ _ _
    c.load-read.ensures.answer c.check_scratch-room.ensures c.check_list-ready.ensures

pub load_nodes-answer-requires-clause-searchable : goal.load_nodes-answer-requires-clause-searchable
load_nodes-answer-requires-clause-searchable c =
    subst (λ (σ : Store). Searchable (of_loaded c.check_list-ready.result) σ c.store_fault-found.new.work) c.as_ref-now.ensures
    (ready-searchable (held c.as_ref-now.result) (length c.args.work.now) _
    c.store_fault-found.auto.work c.args.f.now c.args.list.now c.args.store.now.levels
    (length c.args.edges.now) (length c.args.seats.now) c.store_fault-found.result
    c.length_fault-before.result c.length_fault-before.ensures c.store_fault-found.ensures.finds
    _ _ _ c.load-read.ensures.answer c.check_scratch-room.ensures c.check_list-ready.ensures)

pub shape_of-ids : goal.shape_of-ids
shape_of-ids c =
    c.finish.auto.ids ∙ c.load-read.auto.ids

pub shape_of-order : goal.shape_of-order
shape_of-order c =
    c.finish.auto.order ∙ c.load-read.auto.order

pub shape_of-permids : goal.shape_of-permids
shape_of-permids c =
    c.finish.auto.permids ∙ c.load-read.auto.permids

pub shape_of-auxids : goal.shape_of-auxids
shape_of-auxids c =
    c.finish.auto.auxids ∙ c.load-read.auto.auxids

pub shape_of-names : goal.shape_of-names
shape_of-names c =
    c.finish.auto.names ∙ c.load-read.auto.names

pub shape_of-lens : goal.shape_of-lens
shape_of-lens c =
    c.finish.auto.lens ∙ c.load-read.auto.lens

pub shape_of-rootnames : goal.shape_of-rootnames
shape_of-rootnames c =
    c.finish.auto.rootnames ∙ c.load-read.auto.rootnames

pub shape_of-rootlens : goal.shape_of-rootlens
shape_of-rootlens c =
    c.finish.auto.rootlens ∙ c.load-read.auto.rootlens

pub shape_of-roots : goal.shape_of-roots
shape_of-roots c =
    c.load_nodes-answer.auto.roots ∙ c.load-read.auto.roots

pub shape_of-edges : goal.shape_of-edges
shape_of-edges c =
    c.load_nodes-answer.auto.edges

pub shape_of-seats : goal.shape_of-seats
shape_of-seats c =
    c.load_nodes-answer.auto.seats

pub shape_of-work : goal.shape_of-work
shape_of-work c =
    c.load_nodes-answer.auto.work ∙ c.store_fault-found.auto.work

pub returns-clause-loaded : goal.returns-clause-loaded
returns-clause-loaded c =
    let p = parts c.args.ids.now c.args.order.now c.args.permids.now c.args.auxids.now c.args.names.now c.args.lens.now c.args.roots.now c.args.rootnames.now
    c.args.rootlens.now c.args.edges.now c.args.seats.now in
    let found = rw c.as_ref-now.ensures at c.store_fault-found.ensures.fault in
    let b = before-is c.args.f.now c.args.list.now p (held_mut c.args.store.now) _ _ _ c.lists_fault-lists.ensures found c.length_fault-before.ensures in
    let h = c.load-read.ensures in
    let n = c.load_nodes-answer.ensures.loaded in
    let e = c.finish.ensures in
    let d = answer-left c.args.f.now c.args.list.now p (held_mut c.args.store.now) _ b _ _ _ h.answer c.check_scratch-room.ensures c.check_list-ready.ensures
    _ h.roots_left _ n.answer in
    record {
      answer = d;
      store = store-left c.args.f.now c.args.list.now p (held_mut c.args.store.now) _ b _ _ _ h.answer c.check_scratch-room.ensures
          c.check_list-ready.ensures _ h.roots_left _ n.store;
      lists =
          parts-alike
          (list_left c.args.f.now c.args.list.now p (held_mut c.args.store.now) _ b _ d (length c.args.ids.now) (λ x. x.ids) refl _ h.ids_left _ e.ids_left)
          (list_left c.args.f.now c.args.list.now p (held_mut c.args.store.now) _ b _ d (length c.args.order.now) (λ x. x.order) refl _ h.order_left _ e.order_left)
          (list_left c.args.f.now c.args.list.now p (held_mut c.args.store.now) _ b _ d (length c.args.permids.now) (λ x. x.permids) refl _ h.permids_left _ e.permids_left)
          (list_left c.args.f.now c.args.list.now p (held_mut c.args.store.now) _ b _ d (length c.args.auxids.now) (λ x. x.auxids) refl _ h.auxids_left _ e.auxids_left)
          (list_left c.args.f.now c.args.list.now p (held_mut c.args.store.now) _ b _ d (length c.args.names.now) (λ x. map start_of x.names) refl _ h.names_left _ e.names_left)
          (list_left c.args.f.now c.args.list.now p (held_mut c.args.store.now) _ b _ d (length c.args.lens.now) (λ x. map len_of x.names) refl _ h.lens_left _ e.lens_left)
          (roots_left c.args.f.now c.args.list.now p (held_mut c.args.store.now) _ b _ _ _ h.answer c.check_scratch-room.ensures
          c.check_list-ready.ensures _ h.roots_left _ n.roots_left)
          (list_left c.args.f.now c.args.list.now p (held_mut c.args.store.now) _ b _ d (length c.args.rootnames.now) (λ x. map start_of x.rootnames) refl _ h.rootnames_left _ e.rootnames_left)
          (list_left c.args.f.now c.args.list.now p (held_mut c.args.store.now) _ b _ d (length c.args.rootlens.now) (λ x. map len_of x.rootnames) refl _ h.rootlens_left _ e.rootlens_left)
          n.edges_left
          n.seats_left;
      work_left = n.work_left ∙ ap (λ k. replicate k 0) c.store_fault-found.auto.work;
    }
