-- `put_ordered_names` meets its contract.
use native.Mathlib.Omega.{arith}
use Rattle.export_names.specs.Names.{names_at}
use Rattle.heading.specs.Heading.{chosen_names}
use Rattle.heading.proofs.Writing.{words-start, writing-room, writing_more, writing-end}
use Rattle.heading.proofs.Variables.{variables-start, variables-end, variable-some, variable-there, variable-next, names-as}
use Rattle.head_names.proofs.put_ordered_names.Goals as goal

pub loop-l-init : goal.loop-l-init
loop-l-init c =
    let s = c.args in
    names-as (names_at s.bytes.now s.starts.now s.lens.now) (variables-start s.order.now)
    (words-start s.out.now s.at _ c.requires.room)

pub overflow_sub-variable : goal.overflow_sub-variable
overflow_sub-variable c =
    let s = c.args in
    let p = c.requires in
    variable-some s.order.now s.vars.now p.is_an_order p.vars_there p.vars_long c.loop-l.l
    c.loop-l-test.true

pub put_name-next-requires-clause-inside : goal.put_name-next-requires-clause-inside
unfolding chosen_names
put_name-next-requires-clause-inside c =
    let s = c.args in
    let q = c.requires in
    let p = q in
    let l = c.loop-l in
    let t = c.loop-l-test.true in
    let some = variable-some s.order.now s.vars.now p.is_an_order p.vars_there p.vars_long l.l t in
    let there = variable-there s.order.now s.vars.now p.is_an_order p.vars_there p.vars_long l.l t in
    let e = variable-next s.order.now s.vars.now p.is_an_order p.vars_there p.vars_long l.l t in
    (q.inside, omega (arith, q.named))

pub put_name-next-requires-clause-fits_out : goal.put_name-next-requires-clause-fits_out
unfolding chosen_names
put_name-next-requires-clause-fits_out c =
    let s = c.args in
    let q = c.requires in
    let p = q in
    let l = c.loop-l in
    let t = c.loop-l-test.true in
    let some = variable-some s.order.now s.vars.now p.is_an_order p.vars_there p.vars_long l.l t in
    let there = variable-there s.order.now s.vars.now p.is_an_order p.vars_there p.vars_long l.l t in
    let e = variable-next s.order.now s.vars.now p.is_an_order p.vars_there p.vars_long l.l t in
    writing-room (names-as (names_at s.bytes.now s.starts.now s.lens.now) e l.invariant)

pub loop-l-preserved : goal.loop-l-preserved
unfolding chosen_names
loop-l-preserved c =
    let s = c.args in
    let p = c.requires in
    let l = c.loop-l in
    let e = variable-next s.order.now s.vars.now p.is_an_order p.vars_there p.vars_long l.l c.loop-l-test.true in
    writing_more (names-as (names_at s.bytes.now s.starts.now s.lens.now) e l.invariant) c.put_name-next.ensures

pub returns : goal.returns
unfolding chosen_names
returns c =
    let s = c.args in
    let l = c.loop-l in
    writing-end (names-as (names_at s.bytes.now s.starts.now s.lens.now) (variables-end s.order.now l.l c.loop-l-test.false)
    l.invariant)
