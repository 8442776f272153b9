-- `put_inner` meets its contract: the number, the support position, the two children and the line's end.
use mir.Facts.{to_z-of_z}
use Rattle.node_writers.proofs.Parts.{none, then}
use Rattle.node_writers.proofs.LineBytes.{wrote-text}
use Rattle.node_writers.proofs.text.put_inner.Goals.{Start}
use Rattle.node_writers.proofs.text.put_inner.Goals as goal

pub returns : goal.returns
returns c =
    let t = rw (to_z-of_z c.ranges.t) at c.put_edge-els.ensures in
    let e = rw (to_z-of_z c.ranges.e) at c.put_edge-end.ensures in
    wrote-text c.args.n c.args.p c.args.t c.args.e
    (then c.put_decimal-variable.ensures
    (then c.put_number-then.ensures
    (then t (then e (then c.put_byte.ensures none)))))
