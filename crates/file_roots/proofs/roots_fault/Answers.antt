-- `roots_fault` meets its contract. The invariant: the roots before this one have no fault, so that the others decide.
use mathlib.Core.Path.{sym, ◌∙◌}
use Rattle.std.proofs.Common.{rules}
use lib.ListN.{get_or}
use mir.Syntax.{w64}
use lib.IntN.{pos}
use Rattle.edges.proofs.Signed.{abs-back}
use Rattle.file_roots.proofs.RootEdges.{faults-end, faults-zero, faults-over, faults-more}
use Rattle.file_roots.proofs.roots_fault.Goals as goal

pub returns-then-m-eq0 : goal.returns-then-m-eq0
returns-then-m-eq0 c =
    let m = c.unsigned_abs-m.ensures.value ∙ abs-back w64 (get_or c.args.roots.now c.loop-r.r-index (pos 0)) (search rules) in
    sym (faults-zero _ _ _ c.loop-r.invariant c.loop-r-test.true m c.if-m-eq0.true)

pub returns-then-nnodes-m : goal.returns-then-nnodes-m
returns-then-nnodes-m c =
    let m = c.unsigned_abs-m.ensures.value ∙ abs-back w64 (get_or c.args.roots.now c.loop-r.r-index (pos 0)) (search rules) in
    sym (faults-over _ _ _ c.loop-r.invariant c.loop-r-test.true m c.if-m-eq0.false c.if-nnodes-m.true)

pub loop-r-preserved : goal.loop-r-preserved
loop-r-preserved c =
    let m = c.unsigned_abs-m.ensures.value ∙ abs-back w64 (get_or c.args.roots.now c.loop-r.r-index (pos 0)) (search rules) in
    faults-more _ _ _ c.loop-r.invariant c.loop-r-test.true m c.if-m-eq0.false c.if-nnodes-m.false

pub returns : goal.returns
returns c =
    sym (faults-end _ _ _ c.loop-r.invariant c.loop-r-test.false)
