-- `same_names` meets its contract. The invariant: the first i names are alike, and the rest decides.
use Rattle.variable_names.proofs.Alike.{names-start, names_more, names-unlike, names-end}
use Rattle.variable_names.proofs.same_names.Goals as goal

pub loop-i-init : goal.loop-i-init
loop-i-init c =
    let r = c.requires in
    names-start r.index2_len r.lens_len r.lens2_len

pub returns-then-not-same_name : goal.returns-then-not-same_name
returns-then-not-same_name c =
    let unlike =
    names-unlike
    c.loop-i.invariant
    c.loop-i-test.true
    c.same_name.ensures
    c.entry.ensures
    c.entry-in-loop-i.ensures
    c.entry-in-loop-i-2.ensures
    c.entry-in-loop-i-3.ensures
    c.if-not-same_name.true in
    record { answer = unlike }

pub loop-i-preserved : goal.loop-i-preserved
loop-i-preserved c =
    names_more
    c.loop-i.invariant
    c.loop-i-test.true
    c.same_name.ensures
    c.entry.ensures
    c.entry-in-loop-i.ensures
    c.entry-in-loop-i-2.ensures
    c.entry-in-loop-i-3.ensures
    c.if-not-same_name.false

pub returns : goal.returns
returns c =
    record { answer = names-end c.loop-i.invariant c.loop-i-test.false }
