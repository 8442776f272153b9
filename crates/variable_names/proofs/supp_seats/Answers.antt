use mathlib.Core.Path.{ap, ◌∙◌}
use native.Mathlib.Omega.{arith}
use lib.ListN.{length}
use Rattle.codes.specs.Lent.{laid}
use Rattle.support.proofs.Arranged.{zeros-counted}
use Rattle.variable_names.specs.Names.{supp_seats}
use Rattle.variable_names.proofs.Gathered.{laying-length}
use Rattle.variable_names.proofs.Free.{supporting-start, supporting-more, supporting-end}
use Rattle.variable_names.proofs.supp_seats.Goals as goal

pub seats-requires-clause-dst_value : goal.seats-requires-clause-dst_value
seats-requires-clause-dst_value c =
    zeros-counted (length c.args.seats.now) (c.fill.ensures.after (λ y h. h))

pub loop-v-init : goal.loop-v-init
loop-v-init c =
    supporting-start _ _ _

pub loop-v-preserved : goal.loop-v-preserved
loop-v-preserved c =
    let e = c.seats.ensures c.loop-v.v (omega (arith, c.loop-v-test.true)) in
    rw c.put.ensures (supporting-more c.loop-v.invariant c.loop-v-test.true e)

pub shape_of-dst : goal.shape_of-dst
shape_of-dst c =
    laying-length c.loop-v.invariant.laying

pub returns : goal.returns
returns c =
    let s = c.args in
    record {
      list = supporting-end c.loop-v.invariant c.loop-v-test.false
          ∙ ap (λ k. laid (supp_seats k s.ids.now) s.dst.now) (c.seats.auto.dst ∙ c.fill.ensures.len);
    }
