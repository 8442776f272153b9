-- `put_ids` meets its contract.
use mathlib.Core.Path.{sym, ap, ◌∙◌}
use mathlib.Core.List.{map}
use Rattle.writers.specs.Decimal.{decimal}
use Rattle.heading.specs.Heading.{ids_from}
use Rattle.heading.specs.Tables.{seated_levels}
use Rattle.heading.proofs.Writing.{words-start, words-as, writing-room, writing_more, writing-end}
use Rattle.heading.proofs.Variables.{id_next, id-passed, ids-end}
use Rattle.head_numbers.proofs.put_ids.Goals.{then-in_support, else-in_support}
use Rattle.head_numbers.proofs.put_ids.Goals as goal

pub loop-v-init : goal.loop-v-init
loop-v-init c =
    let s = c.args in
    words-start s.out.now s.at (map decimal (ids_from (seated_levels s.seats.now) 0 s.order.now)) c.requires.fits_out

pub put_spaced-next-requires : goal.put_spaced-next-requires
put_spaced-next-requires c =
    let s = c.args in
    let l = c.loop-v in
    let e = id_next (seated_levels s.seats.now) s.order.now l.v c.loop-v-test.true
    (sym c.in_support.ensures ∙ c.if-in_support.true) in
    writing-room (words-as (ap (map decimal) e) l.invariant)

pub loop-v-preserved : goal.loop-v-preserved
loop-v-preserved c =
    let s = c.args in
    let l = c.loop-v in
    let t = c.loop-v-test.true in
    let e = sym c.in_support.ensures in
    elim c.if-in_support.branch [
      | then-in_support w ↦ rw (w.out-is, w.next-is) (writing_more
          (words-as (ap (map decimal) (id_next (seated_levels s.seats.now) s.order.now l.v t (e ∙ w.if-in_support.true))) l.invariant)
          w.put_spaced-next.ensures)
      | else-in_support w ↦ rw (w.out-is, w.next-is)
          (words-as (ap (map decimal) (id-passed (seated_levels s.seats.now) s.order.now l.v t (e ∙ w.if-in_support.false))) l.invariant)
    ]

pub returns : goal.returns
returns c =
    let s = c.args in
    let l = c.loop-v in
    writing-end (words-as (ap (map decimal) (ids-end (seated_levels s.seats.now) s.order.now l.v c.loop-v-test.false)) l.invariant)
