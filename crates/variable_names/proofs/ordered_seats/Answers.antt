use mathlib.Core.Path.{ap, ◌∙◌}
use Prim.Native.Nat.{◌-◌, ◌<◌}
use native.Mathlib.Omega.{arith}
use lib.ListN.{length, get_or}
use Rattle.codes.specs.Lent.{laid}
use Rattle.support.proofs.Arranged.{zeros-counted}
use Rattle.variable_names.specs.Names.{ordered_seats}
use Rattle.variable_names.proofs.Gathered.{laying-length}
use Rattle.variable_names.proofs.Free.{seat-fits, free-entry, ordering-start, ordering-free, ordering-seated, ordering-end}
use Rattle.variable_names.proofs.ordered_seats.Goals.{else-seat-eq0, then-seat-eq0}
use Rattle.variable_names.proofs.ordered_seats.Goals as goal

pub seats-requires-clause-dst_value : goal.seats-requires-clause-dst_value
seats-requires-clause-dst_value c =
    zeros-counted (length c.free_seats.new.seats) (c.fill-2.ensures.after (λ y h. h))

pub loop-v-init : goal.loop-v-init
loop-v-init c =
    ordering-start _ _ _ _

pub overflow_cast-seat : goal.overflow_cast-seat
overflow_cast-seat c =
    seat-fits _ _ (c.seats.ensures c.loop-v.v (omega (arith, c.loop-v-test.true))) c.requires.seats_len_bound.1

pub overflow_add-entry : goal.overflow_add-entry
overflow_add-entry c =
    omega (arith, c.requires.below.0 (get_or c.seats.new.dst c.loop-v.v 0 - 1))

pub loop-v-preserved : goal.loop-v-preserved
loop-v-preserved c =
    let u = c.loop-v.invariant in
    let h = c.loop-v-test.true in
    let e = c.seats.ensures c.loop-v.v (omega (arith, h)) in
    let long = c.seats.auto.dst ∙ c.fill-2.ensures.len ∙ c.free_seats.auto.seats in
    let m : c.loop-v.n < length c.args.free.now = omega (arith, u.few, h, long, c.requires.below.1) in
    let r = free-entry c.args.permids.now long (c.fill.ensures.after (λ y h. h)) c.free_seats.ensures.list c.loop-v.n m in
    elim c.if-seat-eq0.branch [
      | then-seat-eq0 w ↦ rw (w.dst-is ∙ w.put.ensures, w.n-is) (ordering-free u h e w.if-seat-eq0.true (w.entry.ensures ∙ r))
      | else-seat-eq0 w ↦ rw (w.dst-is ∙ w.put-else-seat-eq0.ensures, w.n-is)
          (ordering-seated u h e w.if-seat-eq0.false w.entry-else-seat-eq0.ensures)
    ]

pub shape_of-seats : goal.shape_of-seats
shape_of-seats c =
    c.seats.auto.dst ∙ c.fill-2.ensures.len ∙ c.free_seats.auto.seats

pub shape_of-dst : goal.shape_of-dst
shape_of-dst c =
    laying-length c.loop-v.invariant.laying

pub returns : goal.returns
returns c =
    let s = c.args in
    let long = c.seats.auto.dst ∙ c.fill-2.ensures.len ∙ c.free_seats.auto.seats in
    record { list = ordering-end c.loop-v.invariant c.loop-v-test.false ∙ ap (λ k. laid (ordered_seats k s.ids.now s.permids.now) s.dst.now) long }
