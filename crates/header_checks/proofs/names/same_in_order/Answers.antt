-- `same_in_order` meets its contract. The invariant: the first i names are alike, and the rest decides.
use mathlib.Core.Path.{sym, ap, ◌∙◌}
use lib.ListN.{length, get_or}
use Rattle.variable_names.proofs.Alike.{names-start, names_more, names-unlike, names-end}
use Rattle.header_checks.proofs.Upward.{length_up, up-entry}
use Rattle.header_checks.proofs.names.same_in_order.Goals as goal

pub loop-i-init : goal.loop-i-init
loop-i-init c =
    names-start (length_up _ 0) c.requires.lens_len c.requires.lens2_len

pub returns-then-not-same_name : goal.returns-then-not-same_name
returns-then-not-same_name c =
    let at = sym (up-entry (length c.args.index.now) c.loop-i.i c.loop-i-test.true) in
    record {
      answer = names-unlike c.loop-i.invariant c.loop-i-test.true c.same_name.ensures c.entry.ensures c.entry-in-loop-i.ensures
          (c.entry-in-loop-i-2.ensures ∙ ap (λ k. get_or c.args.starts2.now k 0) at)
          (c.entry-in-loop-i-3.ensures ∙ ap (λ k. get_or c.args.lens2.now k 0) at) c.if-not-same_name.true;
    }

pub loop-i-preserved : goal.loop-i-preserved
loop-i-preserved c =
    let at = sym (up-entry (length c.args.index.now) c.loop-i.i c.loop-i-test.true) in
    names_more c.loop-i.invariant c.loop-i-test.true c.same_name.ensures c.entry.ensures c.entry-in-loop-i.ensures
    (c.entry-in-loop-i-2.ensures ∙ ap (λ k. get_or c.args.starts2.now k 0) at)
    (c.entry-in-loop-i-3.ensures ∙ ap (λ k. get_or c.args.lens2.now k 0) at) c.if-not-same_name.false

pub returns : goal.returns
returns c =
    record { answer = names-end c.loop-i.invariant c.loop-i-test.false }
