use mathlib.Core.Path.{ap, ◌∙◌}
use native.Mathlib.Omega.{arith}
use lib.ListN.{length}
use Rattle.codes.specs.Lent.{laid}
use Rattle.support.proofs.Arranged.{zeros-counted}
use Rattle.variable_names.specs.Names.{free_from}
use Rattle.variable_names.proofs.Gathered.{laying-length}
use Rattle.variable_names.proofs.Free.{freeing-start, freeing-one, freeing-none, freeing-end}
use Rattle.variable_names.proofs.free_seats.Goals.{else-taken-eq0, then-taken-eq0}
use Rattle.variable_names.proofs.free_seats.Goals as goal

pub seats-requires-clause-dst_value : goal.seats-requires-clause-dst_value
seats-requires-clause-dst_value c =
    zeros-counted (length c.args.seats.now) (c.fill.ensures.after (λ y h. h))

pub loop-p-init : goal.loop-p-init
loop-p-init c =
    freeing-start _ _ _

pub loop-p-preserved : goal.loop-p-preserved
loop-p-preserved c =
    let u = c.loop-p.invariant in
    let h = c.loop-p-test.true in
    let e = c.seats.ensures c.loop-p.p (omega (arith, h)) in
    elim c.if-taken-eq0.branch [
      | then-taken-eq0 w ↦ rw (w.dst-is ∙ w.put.ensures, w.n-is) (freeing-one u h e w.if-taken-eq0.true)
      | else-taken-eq0 w ↦ rw (w.dst-is, w.n-is) (freeing-none u h e w.if-taken-eq0.false)
    ]

pub shape_of-dst : goal.shape_of-dst
shape_of-dst c =
    laying-length c.loop-p.invariant.laying

pub returns : goal.returns
returns c =
    let s = c.args in
    record {
      list = freeing-end c.loop-p.invariant c.loop-p-test.false
          ∙ ap (λ k. laid (free_from k 0 s.permids.now) s.dst.now) (c.seats.auto.dst ∙ c.fill.ensures.len);
    }
