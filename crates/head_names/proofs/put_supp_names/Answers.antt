-- `put_supp_names` meets its contract.
use mathlib.Core.Path.{sym, ◌∙◌}
use Rattle.export_names.specs.Names.{names_at}
use Rattle.heading.specs.Heading.{chosen_names}
use Rattle.heading.specs.Tables.{seated_levels}
use Rattle.heading.proofs.Writing.{words-start, writing-room, writing_more, writing-end}
use Rattle.heading.proofs.Variables.{id_next, id-passed, ids-end, names-as}
use Rattle.head_names.proofs.put_supp_names.Goals.{then-in_support, else-in_support}
use Rattle.head_names.proofs.put_supp_names.Goals as goal

pub loop-v-init : goal.loop-v-init
loop-v-init c =
    let s = c.args in words-start s.out.now s.at _ c.requires.room

pub put_name-next-requires-clause-fits_out : goal.put_name-next-requires-clause-fits_out
unfolding chosen_names
put_name-next-requires-clause-fits_out c =
    let s = c.args in
    let p = c.requires in
    let l = c.loop-v in
    let t = c.loop-v-test.true in
    let e = id_next (seated_levels s.seats.now) s.order.now l.v t (sym c.in_support.ensures ∙ c.if-in_support.true) in
    writing-room (names-as (names_at s.bytes.now s.starts.now s.lens.now) e l.invariant)

pub loop-v-preserved : goal.loop-v-preserved
unfolding chosen_names
loop-v-preserved c =
    let s = c.args in
    let l = c.loop-v in
    let t = c.loop-v-test.true in
    let e = sym c.in_support.ensures in
    let names = names_at s.bytes.now s.starts.now s.lens.now in
    elim c.if-in_support.branch [
      | then-in_support w ↦ rw (w.out-is, w.next-is)
          (writing_more (names-as names (id_next (seated_levels s.seats.now) s.order.now l.v t (e ∙ w.if-in_support.true)) l.invariant) w.put_name-next.ensures)
      | else-in_support w ↦ rw (w.out-is, w.next-is)
          (names-as names (id-passed (seated_levels s.seats.now) s.order.now l.v t (e ∙ w.if-in_support.false)) l.invariant)
    ]

pub returns : goal.returns
unfolding chosen_names
returns c =
    let s = c.args in
    let l = c.loop-v in
    writing-end
    (names-as (names_at s.bytes.now s.starts.now s.lens.now)
    (ids-end (seated_levels s.seats.now) s.order.now l.v c.loop-v-test.false) l.invariant)
