-- `sweep` meets its contract: before each line the two lists hold the last values of the lines read, and what is left decides.
use native.Mathlib.Omega.{arith}
use mathlib.Core.Path.{◌≡◌, ap, ◌∙◌}
use Rattle.std.specs.Prelude.{Ok}
use Rattle.std.proofs.lemmas.Result.{err_from_is_err_and}
use Rattle.header_lines.specs.Sweep.{at_nodes, refused_at}
use Rattle.header_lines.proofs.Progress.{Outcome, progress_start, progress-value, progress-nodes, progress-fault, progress-cut}
use Rattle.header_lines.proofs.sweep.Goals as goal
use Rattle.header_lines.proofs.sweep.Goals.{In_err-slot, In-Nodes}

pub loop-at-init : goal.loop-at-init
loop-at-init c =
    progress_start _ _ _ c.requires.starts_value c.requires.ends_value

pub loop-at-preserved : goal.loop-at-preserved
loop-at-preserved c =
    let e : c.step_at.result ≡ Ok c.in_ok-slot.field-0 = grind arith in
    let v = e ∙ ap Ok c.in-Value.is in
    rw (c.put.ensures, c.put-in-Value.ensures) (progress-value c.loop-at.invariant c.loop-at-test.true (rw v at c.step_at.ensures.value) (rw v at c.step_at.ensures.step_within))

-- the line has a fault
refused : (c : In_err-slot) → Outcome c.args.f.now c.loop-at.starts c.loop-at.ends (refused_at c.in_err-slot.field-0.0.number c.in_err-slot.field-0.0.line)
refused c =
    progress-fault c.loop-at.invariant c.loop-at-test.true c.step_at.ensures.value (grind arith)

-- it is that of `.nodes`
ended : (c : In-Nodes) → Outcome c.args.f.now c.loop-at.starts c.loop-at.ends (at_nodes c.in-Nodes.next c.loop-at.line)
ended c =
    let e : c.step_at.result ≡ Ok c.in_ok-slot.field-0 = grind arith in
    let v = e ∙ ap Ok c.in-Nodes.is in
    progress-nodes c.loop-at.invariant c.loop-at-test.true (rw v at c.step_at.ensures.value) (rw v at c.step_at.ensures.step_within)

pub returns-in_err-slot-clause-result_value : goal.returns-in_err-slot-clause-result_value
returns-in_err-slot-clause-result_value c =
    let p = err_from_is_err_and c.from_residual.result c.from_residual.ensures.1 in
    rw (p.1, p.2) (refused (goal.at.returns-in_err-slot-clause-result_value c).In_err-slot).0

pub returns-in_err-slot-clause-starts_after : goal.returns-in_err-slot-clause-starts_after
returns-in_err-slot-clause-starts_after c =
    (refused (goal.at.returns-in_err-slot-clause-starts_after c).In_err-slot).1.0

pub returns-in_err-slot-clause-ends_after : goal.returns-in_err-slot-clause-ends_after
returns-in_err-slot-clause-ends_after c =
    (refused (goal.at.returns-in_err-slot-clause-ends_after c).In_err-slot).1.1.0

pub returns-in-Nodes-clause-result_value : goal.returns-in-Nodes-clause-result_value
returns-in-Nodes-clause-result_value c =
    (ended (goal.at.returns-in-Nodes-clause-result_value c).In-Nodes).0

pub returns-in-Nodes-clause-starts_after : goal.returns-in-Nodes-clause-starts_after
returns-in-Nodes-clause-starts_after c =
    (ended (goal.at.returns-in-Nodes-clause-starts_after c).In-Nodes).1.0

pub returns-in-Nodes-clause-ends_after : goal.returns-in-Nodes-clause-ends_after
returns-in-Nodes-clause-ends_after c =
    (ended (goal.at.returns-in-Nodes-clause-ends_after c).In-Nodes).1.1.0

pub returns-clause-result_value : goal.returns-clause-result_value
returns-clause-result_value c =
    rw c.at.ensures (progress-cut c.loop-at.invariant c.loop-at-test.false).0

pub returns-clause-starts_after : goal.returns-clause-starts_after
returns-clause-starts_after c =
    (progress-cut c.loop-at.invariant c.loop-at-test.false).1.0

pub returns-clause-ends_after : goal.returns-clause-ends_after
returns-clause-ends_after c =
    (progress-cut c.loop-at.invariant c.loop-at-test.false).1.1.0
