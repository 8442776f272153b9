-- `join` meets its contract: each turn of the loop is a step of the join's course, and the steps left get fewer.
use mathlib.Core.Path.{ap, ◌∙◌}
use mathlib.Core.Bool.{not}
use native.Mathlib.Omega.{arith}
use borrow.Author.Rules.{rules}
use Rattle.store.specs.Make.{Made}
use Rattle.store.proofs.Held.{same-start, same-on}
use Rattle.joining.proofs.Knowing.{none_is}
use Rattle.joining.proofs.Equal.{lacks-by, has-by}
use Rattle.joining.proofs.Runs.{turnable, next-edges, next-asks, runs-start, runs-known, known-less, room, runs-down, down-less, runs-end, few, runs-over}
use Rattle.joining.proofs.Runs.{over-less, last-edges, may-make, made-edge, runs-made, made-less-steps, runs-full, full-cached, whole-read}
use Rattle.joining.proofs.join.Goals as goal

pub loop-result-init : goal.loop-result-init
loop-result-init c = record {
  runs = runs-start _ _ _ c.args.a c.args.b _ _ c.requires.ready c.requires.known c.requires.cached;
  same = same-start c.args.store.now;
}

pub known-found-requires-clause-edge : goal.known-found-requires-clause-edge
known-found-requires-clause-edge c = next-edges (rw c.in-None.is at c.loop-result.invariant.runs)

pub known-found-requires-clause-turnable : goal.known-found-requires-clause-turnable
known-found-requires-clause-turnable c = turnable c.loop-result.invariant.runs

pub split_pair-split-requires : goal.split_pair-split-requires
split_pair-split-requires c =
    let I = rw c.in-None.is at c.loop-result.invariant.runs in
    rw c.as_ref.ensures (next-asks I (rw (none_is _ (c.is_none.ensures ∙ ap not c.if-is_none.true)) at c.known-found.ensures))

pub offset_bounds-waiting-n : goal.offset_bounds-waiting-n
offset_bounds-waiting-n c =
    let I = rw c.in-None.is at c.loop-result.invariant.runs in
    omega (arith, room I (rw (none_is _ (c.is_none.ensures ∙ ap not c.if-is_none.true)) at c.known-found.ensures))

pub bounds-waiting-n : goal.bounds-waiting-n
bounds-waiting-n c =
    let I = rw c.in-None.is at c.loop-result.invariant.runs in
    room I (rw (none_is _ (c.is_none.ensures ∙ ap not c.if-is_none.true)) at c.known-found.ensures)

pub overflow_add-n : goal.overflow_add-n
overflow_add-n c =
    let I = rw c.in-None.is at c.loop-result.invariant.runs in
    omega (arith, room I (rw (none_is _ (c.is_none.ensures ∙ ap not c.if-is_none.true)) at c.known-found.ensures))

pub loop-result-smaller-then-is_none : goal.loop-result-smaller-then-is_none
loop-result-smaller-then-is_none c =
    let I = rw c.in-None.is at c.loop-result.invariant.runs in
    let q = none_is _ (c.is_none.ensures ∙ ap not c.if-is_none.true) in
    rw (q, c.in-None.is) (down-less I (rw q at c.known-found.ensures) c.split_pair-split.result (rw c.as_ref.ensures at c.split_pair-split.ensures) _)

pub loop-result-preserved-then-is_none : goal.loop-result-preserved-then-is_none
loop-result-preserved-then-is_none c = record {
  runs =
      let I = rw c.in-None.is at c.loop-result.invariant.runs in
      let q = none_is _ (c.is_none.ensures ∙ ap not c.if-is_none.true) in
      rw q (runs-down I (rw q at c.known-found.ensures) c.split_pair-split.result (rw c.as_ref.ensures at c.split_pair-split.ensures) _);
  same = c.loop-result.invariant.same;
}

pub loop-result-smaller-else-is_none : goal.loop-result-smaller-else-is_none
loop-result-smaller-else-is_none c =
    let I = rw c.in-None.is at c.loop-result.invariant.runs in
    rw c.in-None.is (known-less I _ c.known-found.ensures (c.is_none.ensures ∙ ap not c.if-is_none.false))

pub loop-result-preserved-else-is_none : goal.loop-result-preserved-else-is_none
loop-result-preserved-else-is_none c = record {
  runs = runs-known (rw c.in-None.is at c.loop-result.invariant.runs) _ c.known-found.ensures (c.is_none.ensures ∙ ap not c.if-is_none.false);
  same = c.loop-result.invariant.same;
}

pub returns-then-n-eq0-clause-joined : goal.returns-then-n-eq0-clause-joined
returns-then-n-eq0-clause-joined c =
    let I = rw c.in-Some.is at c.loop-result.invariant.runs in
    let e = runs-end I (omega (arith, c.if-n-eq0.true)) ∙ whole-read _ _ _ _ c.requires.ready in
    record {
      answer = ap (λ (m : Made). m.answer) e;
      store = ap (λ (m : Made). m.after) e;
      known = c.loop-result.invariant.runs.found;
      cached = c.loop-result.invariant.runs.cached;
    }

pub offset_bounds-waiting-n-in-Some : goal.offset_bounds-waiting-n-in-Some
offset_bounds-waiting-n-in-Some c =
    let I = rw c.in-Some.is at c.loop-result.invariant.runs in
    omega (arith, few I (omega (arith, c.if-n-eq0.false)))

pub bounds-waiting-n-in-Some : goal.bounds-waiting-n-in-Some
bounds-waiting-n-in-Some c =
    let I = rw c.in-Some.is at c.loop-result.invariant.runs in
    omega (arith, few I (omega (arith, c.if-n-eq0.false)), c.if-n-eq0.false)

pub offset_bounds-waiting-n-then-last-eq0 : goal.offset_bounds-waiting-n-then-last-eq0
offset_bounds-waiting-n-then-last-eq0 c =
    let I = rw c.in-Some.is at c.loop-result.invariant.runs in
    omega (arith, few I (omega (arith, c.if-n-eq0.false)))

pub bounds-waiting-n-then-last-eq0 : goal.bounds-waiting-n-then-last-eq0
bounds-waiting-n-then-last-eq0 c =
    let I = rw c.in-Some.is at c.loop-result.invariant.runs in
    omega (arith, few I (omega (arith, c.if-n-eq0.false)), c.if-n-eq0.false)

pub loop-result-smaller-then-last-eq0 : goal.loop-result-smaller-then-last-eq0
loop-result-smaller-then-last-eq0 c =
    let I = rw c.in-Some.is at c.loop-result.invariant.runs in
    rw c.in-Some.is (over-less I (omega (arith, c.if-n-eq0.false)) (lacks-by _ (search rules) c.if-last-eq0.true))

pub loop-result-preserved-then-last-eq0 : goal.loop-result-preserved-then-last-eq0
loop-result-preserved-then-last-eq0 c = record {
  runs = runs-over (rw c.in-Some.is at c.loop-result.invariant.runs) (omega (arith, c.if-n-eq0.false)) (lacks-by _ (search rules) c.if-last-eq0.true);
  same = c.loop-result.invariant.same;
}

pub make_over-requires : goal.make_over-requires
make_over-requires c = record {
  rules = c.loop-result.invariant.runs.rules;
  children = may-make (rw c.in-Some.is at c.loop-result.invariant.runs) (omega (arith, c.if-n-eq0.false)) (has-by _ c.if-last-eq0.false);
  known = c.loop-result.invariant.runs.found;
}

pub returns-in_err-made-in-Some-clause-joined : goal.returns-in_err-made-in-Some-clause-joined
returns-in_err-made-in-Some-clause-joined c =
    let I = rw c.in-Some.is at c.loop-result.invariant.runs in
    let m = c.in_err-made-in-Some.ensures.made in
    let F = runs-full I (omega (arith, c.if-n-eq0.false)) (has-by _ c.if-last-eq0.false) _ m.store m.answer in
    let W = whole-read _ _ _ _ c.requires.ready in
    rw c.from_residual.ensures (record {
      answer = F.0 ∙ ap (λ (m : Made). m.answer) W;
      store = F.1 ∙ ap (λ (m : Made). m.after) W;
      known = m.known;
      cached = full-cached I (omega (arith, c.if-n-eq0.false)) (has-by _ c.if-last-eq0.false) _ m.store;
    })

pub keep-requires : goal.keep-requires
keep-requires c =
    let I = rw c.in-Some.is at c.loop-result.invariant.runs in
    let m = c.in_ok-made-in-Some.ensures.made in
    let e = last-edges I (omega (arith, c.if-n-eq0.false)) (has-by _ c.if-last-eq0.false) in
    (e.0, e.1, made-edge I (omega (arith, c.if-n-eq0.false)) (has-by _ c.if-last-eq0.false) _ m.store _ m.answer)

pub loop-result-smaller : goal.loop-result-smaller
loop-result-smaller c =
    let I = rw c.in-Some.is at c.loop-result.invariant.runs in
    let m = c.in_ok-made-in-Some.ensures.made in
    rw c.in-Some.is (made-less-steps I (omega (arith, c.if-n-eq0.false)) (has-by _ c.if-last-eq0.false) _ m.store c.in_ok-made-in-Some.made m.answer)

pub loop-result-preserved : goal.loop-result-preserved
loop-result-preserved c =
    let I = rw c.in-Some.is at c.loop-result.invariant.runs in
    let m = c.in_ok-made-in-Some.ensures.made in
    record {
      runs = runs-made I (omega (arith, c.if-n-eq0.false)) (has-by _ c.if-last-eq0.false)
          _ m.store c.in_ok-made-in-Some.made m.answer _ m.known _ c.keep.ensures;
      same = same-on c.loop-result.invariant.same c.make_over.ensures.same;
    }
