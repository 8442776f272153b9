-- `parse_children` meets its contract: the list that is lent to the reader of edges holds two zeros before.
use lib.IntN.{pos}
use lib.ListN.{get_or}
use borrow.Author.Rules.{rules}
use mir.Syntax.{w64}
use mir.Val.{SFits}
use mir.Facts.{to_z-of_z}
use Rattle.std.proofs.lemmas.Result.{err_from_is_err_and}
use Rattle.read_edges.proofs.EdgeList.{children-read, children-refused}
use Rattle.read_edges.proofs.parse_children.Goals as goal

pub returns-in_err-count : goal.returns-in_err-count
returns-in_err-count c =
    let p = err_from_is_err_and c.from_residual.result c.from_residual.ensures.1 in
    rw (p.1, p.2) (children-refused _ c.in_err-count.ensures.result_value)

pub returns : goal.returns
returns c =
    let a : SFits w64 (get_or c.parse_edge_list.new.dst 0 (pos 0)) = record { sfits = search rules } in
    let b : SFits w64 (get_or c.parse_edge_list.new.dst 1 (pos 0)) = record { sfits = search rules } in
    rw (to_z-of_z a, to_z-of_z b) (children-read _ c.in_ok-count.ensures.result_value c.in_ok-count.ensures.dst_after)
