-- `load_nodes` meets its contract: the nodes of a header are imported; after a refusal the lists are cleared.
use mathlib.Core.Path.{ap, ◌∙◌}
use native.Mathlib.Omega.{arith}
use Rattle.std.proofs.lemmas.Result.{err_from_is_err_and}
use Rattle.store.specs.Held.{held_mut}
use Rattle.stages.specs.Stages.{answer_with_nodes}
use Rattle.last_stages.proofs.Nodes.{few_nodes, import-may, nodes-found, nodes-noded, nodes-none}
use Rattle.last_stages.proofs.load_nodes.Goals as goal

pub overflow_cast-setup : goal.overflow_cast-setup
overflow_cast-setup c =
    let k = few_nodes _ _ _ _ c.in-Ok.is _ _ c.requires.readable in
    record { fits = omega (arith, k) }

pub import-requires : goal.import-requires
import-requires c =
    let p = import-may _ (held_mut c.args.store.now) c.args.list.now _ c.in-Ok.is _ _ c.requires.readable c.has_extra.ensures in
    record {
      rules = p.0;
      levels_fit = p.1.0;
      bounds = p.1.1;
      finds = nodes-found _ (held_mut c.args.store.now) c.args.list.now _ c.in-Ok.is c.args.work.now c.requires.searchable;
    }

pub returns-in_err-import-in-Ok-clause-loaded : goal.returns-in_err-import-in-Ok-clause-loaded
returns-in_err-import-in-Ok-clause-loaded c =
    let p = err_from_is_err_and c.from_residual.result c.from_residual.ensures.1 in
    let i = c.in_err-import-in-Ok.ensures.imported in
    let e = nodes-noded _ (held_mut c.args.store.now) c.args.list.now _ c.in-Ok.is c.has_extra.ensures c.args.f.now c.args.roots.now in
    rw (p.1, p.2) (record {
      answer = ap (answer_with_nodes _) i.answer ∙ ap (λ n. n.answer) e;
      store = i.store ∙ ap (λ n. n.after) e;
      roots_left = i.roots_left ∙ ap (λ n. n.roots) e;
      edges_left = i.edges_left;
      seats_left = i.seats_left;
      work_left = i.work_left;
    })

pub returns-in_ok-import-in-Ok-clause-loaded : goal.returns-in_ok-import-in-Ok-clause-loaded
returns-in_ok-import-in-Ok-clause-loaded c =
    let i = c.in_ok-import-in-Ok.ensures.imported in
    let e = nodes-noded _ (held_mut c.args.store.now) c.args.list.now _ c.in-Ok.is c.has_extra.ensures c.args.f.now c.args.roots.now in
    record {
      answer = ap (answer_with_nodes _) i.answer ∙ ap (λ n. n.answer) e;
      store = i.store ∙ ap (λ n. n.after) e;
      roots_left = i.roots_left ∙ ap (λ n. n.roots) e;
      edges_left = i.edges_left;
      seats_left = i.seats_left;
      work_left = i.work_left;
    }

pub returns-in-Err-clause-loaded : goal.returns-in-Err-clause-loaded
returns-in-Err-clause-loaded c =
    let e = nodes-none _ (held_mut c.args.store.now) c.args.list.now _ c.in-Err.is c.args.f.now c.args.roots.now in
    record {
      answer = ap (λ n. n.answer) e;
      store = ap (λ n. n.after) e;
      roots_left = (c.fill.ensures.after (λ y h. h)) ∙ ap (λ n. n.roots) e;
      edges_left = c.fill-in-Err.ensures.after (λ y h. h);
      seats_left = c.fill-in-Err-2.ensures.after (λ y h. h);
      work_left = c.fill-in-Err-3.ensures.after (λ y h. h);
    }
