-- `read_lines` meets its contract: each turn of the loop reads one line and makes it into the store; the lines left are fewer each time.
use mathlib.Core.Path.{sym}
use native.Mathlib.Omega.{arith}
use borrow.Author.Rules.{rules}
use mir.ValLaws.{to_z-of_z}
use Rattle.std.proofs.lemmas.Result.{err_from_is_err_and}
use Rattle.edges.specs.Width.{edge_width}
use Rattle.store.proofs.Held.{same-start, same-on}
use Rattle.node_lines.specs.Kinds.{line_said}
use Rattle.imported.proofs.Reading.{line-judged}
use Rattle.import_lines.proofs.Progress.{progress_start, progress-edges, progress-asks, progress-made, progress-full, progress-refused, progress-all}
use Rattle.import_lines.proofs.Progress.{seat-small, error-is}
use Rattle.import_lines.proofs.read_lines.Goals as goal

pub loop-n-init : goal.loop-n-init
loop-n-init c = record {
  progress = progress_start _ _ _ _ _ _ c.requires.rules c.requires.levels_fit c.requires.bounds.edges_long c.requires.bounds.seats_long;
  known = c.requires.known;
  same = same-start c.args.store.now;
}

pub returns-in_err-line-clause-read : goal.returns-in_err-line-clause-read
returns-in_err-line-clause-read c =
    let p = err_from_is_err_and c.from_residual.result c.from_residual.ensures.1 in
    let e = progress-refused c.loop-n.invariant.progress (omega (arith, c.loop-n-test.true)) _ c.in_err-line.ensures.0 _ c.in_err-line.ensures.1 in
    rw (p.1, p.2) (record { answer = e.0; store = e.1.0; laid = e.1.1 })

pub add_line-requires : goal.add_line-requires
add_line-requires c = record {
  rules = c.loop-n.invariant.progress.rules;
  known = c.loop-n.invariant.known;
  all_edges = progress-edges c.loop-n.invariant.progress;
  line = progress-asks c.loop-n.invariant.progress (omega (arith, c.loop-n-test.true)) (line_said c.in_ok-line.line)
      (line-judged _ _ _ _ _ _ _ _ (sym c.in_ok-line.ensures));
}

pub returns-in_err-edges-clause-read : goal.returns-in_err-edges-clause-read
returns-in_err-edges-clause-read c =
    let p = err_from_is_err_and c.from_residual-in_err-edges.result c.from_residual-in_err-edges.ensures.1 in
    let a = rw c.in_err-edges.ensures.ok_part at c.add_line.ensures.added in
    let e = progress-full c.loop-n.invariant.progress (omega (arith, c.loop-n-test.true)) (line_said c.in_ok-line.line)
    (line-judged _ _ _ _ _ _ _ _ (sym c.in_ok-line.ensures)) _ c.in_ok-line.ensures _ a.store a.answer in
    rw (p.1, p.2, error-is _ c.in_err-edges.ensures.ok_part c.in_err-edges.ensures.value) (record { answer = e.0; store = e.1.0; laid = e.1.1 })

pub seat_of-requires : goal.seat_of-requires
seat_of-requires c = seat-small _ _ _ (line_said c.in_ok-line.line) (line-judged _ _ _ _ _ _ _ _ (sym c.in_ok-line.ensures)) c.requires.bounds.few_levels

pub loop-n-preserved : goal.loop-n-preserved
loop-n-preserved c =
    let a = rw c.in_ok-edges.ensures.ok_part at c.add_line.ensures.added in
    record {
      progress = rw (to_z-of_z edge_width c.in_ok-edges.field-0 (search rules), c.seat_of.ensures)
          (progress-made c.loop-n.invariant.progress (omega (arith, c.loop-n-test.true)) (line_said c.in_ok-line.line)
          (line-judged _ _ _ _ _ _ _ _ (sym c.in_ok-line.ensures)) _ c.in_ok-line.ensures _ a.store _ a.answer);
      known = a.known;
      same = same-on c.loop-n.invariant.same c.add_line.ensures.same;
    }

pub returns-clause-read : goal.returns-clause-read
returns-clause-read c =
    let e = progress-all c.loop-n.invariant.progress c.loop-n-test.false in record { answer = e.0; store = e.1.0; laid = e.1.1 }
