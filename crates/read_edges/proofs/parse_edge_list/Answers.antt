-- `parse_edge_list` meets its contract: at each word the entries so far lie in the lent list, and the words that are left decide.
use mathlib.Core.Path.{sym}
use mir.Facts.{to_z-of_z}
use Rattle.std.proofs.lemmas.Result.{err_from_is_err_and}
use Rattle.read_edges.specs.Edges.{entry_of, edge_list}
use Rattle.read_lists.proofs.Judge.{laying-start, laying-length, laying-end, laying_refused, laying-full, laying-more}
use Rattle.read_edges.proofs.EdgeList.{entry-fits}
use Rattle.read_edges.proofs.parse_edge_list.Goals as goal

pub loop-word-init : goal.loop-word-init
loop-word-init c =
    rw (c.into_iter-word-iterator.ensures.into_iter_gives, c.of-word-items.ensures) (laying-start entry_of _ _ _)

pub shape_of-dst-in_err-edge : goal.shape_of-dst-in_err-edge
shape_of-dst-in_err-edge c =
    laying-length entry_of _ _ _ c.loop-word.invariant

pub returns-in_err-edge-clause-result_value : goal.returns-in_err-edge-clause-result_value
unfolding edge_list
returns-in_err-edge-clause-result_value c =
    let p = err_from_is_err_and c.from_residual.result c.from_residual.ensures.1 in
    rw (p.1, p.2) (laying_refused entry_of _ _ _ c.loop-word.invariant c.in-Some.ensures.steps (sym c.in_err-edge.ensures)).0

pub returns-in_err-edge-clause-dst_after : goal.returns-in_err-edge-clause-dst_after
unfolding edge_list
returns-in_err-edge-clause-dst_after c =
    (laying_refused entry_of _ _ _ c.loop-word.invariant c.in-Some.ensures.steps (sym c.in_err-edge.ensures)).1

pub shape_of-dst-then-max-n : goal.shape_of-dst-then-max-n
shape_of-dst-then-max-n c =
    laying-length entry_of _ _ _ c.loop-word.invariant

pub returns-then-max-n-clause-result_value : goal.returns-then-max-n-clause-result_value
unfolding edge_list
returns-then-max-n-clause-result_value c =
    (laying-full entry_of _ _ _ c.loop-word.invariant c.in-Some.ensures.steps (sym c.in_ok-edge.ensures) c.if-max-n.true).0

pub returns-then-max-n-clause-dst_after : goal.returns-then-max-n-clause-dst_after
unfolding edge_list
returns-then-max-n-clause-dst_after c =
    (laying-full entry_of _ _ _ c.loop-word.invariant c.in-Some.ensures.steps (sym c.in_ok-edge.ensures) c.if-max-n.true).1

pub loop-word-preserved : goal.loop-word-preserved
loop-word-preserved c =
    let e = sym c.in_ok-edge.ensures in
    rw (c.put.ensures, to_z-of_z (entry-fits _ e)) (laying-more entry_of _ _ _ c.loop-word.invariant c.in-Some.ensures.steps e c.if-max-n.false)

pub shape_of-dst : goal.shape_of-dst
shape_of-dst c =
    laying-length entry_of _ _ _ c.loop-word.invariant

pub returns-clause-result_value : goal.returns-clause-result_value
unfolding edge_list
returns-clause-result_value c =
    (laying-end entry_of _ _ _ c.loop-word.invariant c.in-None.ensures.steps.0).0

pub returns-clause-dst_after : goal.returns-clause-dst_after
unfolding edge_list
returns-clause-dst_after c =
    (laying-end entry_of _ _ _ c.loop-word.invariant c.in-None.ensures.steps.0).1
