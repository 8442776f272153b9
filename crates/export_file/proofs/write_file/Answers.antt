-- `write_file` meets its contract: the nodes are numbered, the levels seated, and by these tables the parts of the file are written.
use lib.Seq.{length-take-le}
use mathlib.Core.Path.{sym, ap, ◌∙◌}
use native.Mathlib.Omega.{arith}
use Rattle.codes.proofs.LimitsNow.{limits-exports}
use Rattle.heading.specs.Heading.{head_text}
use Rattle.node_writers.specs.Encoded.{node_bytes}
use Rattle.exported.proofs.Accepted.{accepted}
use Rattle.exported.proofs.Bare.{bare-walkable}
use Rattle.exported.proofs.Prepared.{ordered, rooted, heading-same, nodes-many, nodes-room, nodes-placed, filled, lined, lines_same, seats-count}
use Rattle.exported.proofs.FileParts.{head-room, body-room, end-room, file-written}
use Rattle.export_file.proofs.write_file.Goals as goal

pub number_nodes-nnodes-requires-clause-walkable : goal.number_nodes-nnodes-requires-clause-walkable
number_nodes-nnodes-requires-clause-walkable c = bare-walkable (accepted _ _ _ _ _ _ _ c.requires.taken)

pub slice_bounds-nodes-end : goal.slice_bounds-nodes-end
slice_bounds-nodes-end c =
    let n = c.number_nodes-nnodes.ensures in
    nodes-room (accepted _ _ _ _ _ _ _ c.requires.taken) n.many n.lies

pub slice_bounds-nodes-end-2 : goal.slice_bounds-nodes-end-2
slice_bounds-nodes-end-2 c =
    let n = c.number_nodes-nnodes.ensures in
    sym (length-take-le _ _ (nodes-room (accepted _ _ _ _ _ _ _ c.requires.taken) n.many n.lies))

pub seat_levels-nsuppvars-requires-clause-placed : goal.seat_levels-nsuppvars-requires-clause-placed
seat_levels-nsuppvars-requires-clause-placed c =
    let A = accepted _ _ _ _ _ _ _ c.requires.taken in
    let n = c.number_nodes-nnodes.ensures in
    (nodes-placed A n.many n.lies, A.rules.sizes.levels_limit)

pub write_header-nodes_at-requires : goal.write_header-nodes_at-requires
write_header-nodes_at-requires c =
    let A = accepted _ _ _ _ _ _ _ c.requires.taken in
    let n = c.number_nodes-nnodes.ensures in
    let s = c.seat_levels-nsuppvars.ensures in
    let F = filled A n.many n.lies n.numbered c.number_nodes-nnodes.auto.numbers s.seats (omega (arith, c.seat_levels-nsuppvars.auto.seats)) in
    record {
      ordered = ordered A _ _ c.requires.vars_long c.requires.seats F.seats_long;
      rooted = rooted A F;
      names = A.names;
      counted = seats-count A n.many n.lies F s.value;
      room = head-room _ limits-exports A (ap head_text (heading-same A F _ _ (nodes-many A n.many n.lies)));
    }

pub write_nodes-end_at-requires-clause-lined : goal.write_nodes-end_at-requires-clause-lined
write_nodes-end_at-requires-clause-lined c =
    let A = accepted _ _ _ _ _ _ _ c.requires.taken in
    let n = c.number_nodes-nnodes.ensures in
    let s = c.seat_levels-nsuppvars.ensures in
    let F = filled A n.many n.lies n.numbered c.number_nodes-nnodes.auto.numbers s.seats (omega (arith, c.seat_levels-nsuppvars.auto.seats)) in
    lined A n.many n.lies F

pub write_nodes-end_at-requires-clause-fits_out : goal.write_nodes-end_at-requires-clause-fits_out
write_nodes-end_at-requires-clause-fits_out c =
    let A = accepted _ _ _ _ _ _ _ c.requires.taken in
    let n = c.number_nodes-nnodes.ensures in
    let s = c.seat_levels-nsuppvars.ensures in
    let F = filled A n.many n.lies n.numbered c.number_nodes-nnodes.auto.numbers s.seats (omega (arith, c.seat_levels-nsuppvars.auto.seats)) in
    let head = ap head_text (heading-same A F _ _ (nodes-many A n.many n.lies)) in
    let body = ap (node_bytes c.args.ascii) (lines_same A n.many n.lies _ _ F) in
    body-room _ limits-exports A head body c.write_header-nodes_at.ensures.next c.write_header-nodes_at.auto.out

pub put_bytes-requires : goal.put_bytes-requires
put_bytes-requires c =
    let A = accepted _ _ _ _ _ _ _ c.requires.taken in
    let n = c.number_nodes-nnodes.ensures in
    let s = c.seat_levels-nsuppvars.ensures in
    let F = filled A n.many n.lies n.numbered c.number_nodes-nnodes.auto.numbers s.seats (omega (arith, c.seat_levels-nsuppvars.auto.seats)) in
    let head = ap head_text (heading-same A F _ _ (nodes-many A n.many n.lies)) in
    let body = ap (node_bytes c.args.ascii) (lines_same A n.many n.lies _ _ F) in
    end-room _ limits-exports A head body c.write_header-nodes_at.ensures.next c.write_nodes-end_at.ensures.next
    (c.write_nodes-end_at.auto.out ∙ c.write_header-nodes_at.auto.out)

pub returns : goal.returns
returns c =
    let A = accepted _ _ _ _ _ _ _ c.requires.taken in
    let n = c.number_nodes-nnodes.ensures in
    let s = c.seat_levels-nsuppvars.ensures in
    let F = filled A n.many n.lies n.numbered c.number_nodes-nnodes.auto.numbers s.seats (omega (arith, c.seat_levels-nsuppvars.auto.seats)) in
    let head = ap head_text (heading-same A F _ _ (nodes-many A n.many n.lies)) in
    let body = ap (node_bytes c.args.ascii) (lines_same A n.many n.lies _ _ F) in
    let p =
    file-written _ limits-exports A head body c.write_header-nodes_at.ensures c.write_nodes-end_at.ensures c.put_bytes.ensures c.requires.out_clear
    in
    record { answer = p.0; out_left = p.1 }
