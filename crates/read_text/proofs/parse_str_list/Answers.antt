-- `parse_str_list` meets its contract: at each word the places so far lie in the two lent lists, and the words that are left decide.
use mathlib.Core.Path.{sym, ◌∙◌}
use Rattle.read_text.proofs.NameLists.{names-start, names-end, names-bad, names-full, names_more}
use Rattle.read_text.proofs.parse_str_list.Goals as goal

pub loop-at-init : goal.loop-at-init
loop-at-init c =
    rw (c.into_iter-at-iterator.ensures.into_iter_gives, c.of-at-items.ensures) (names-start _ _ _ _ _)

pub loop-at-preserved : goal.loop-at-preserved
loop-at-preserved c =
    rw (c.put.ensures, c.put-in-loop-at.ensures) (names_more c.loop-at.invariant c.in-Some.ensures.steps (sym c.is_utf8.ensures ∙ c.if-not-is_utf8.false) c.if-max-n.false)

pub returns-then-not-is_utf8-clause-result_value : goal.returns-then-not-is_utf8-clause-result_value
returns-then-not-is_utf8-clause-result_value c =
    (names-bad c.loop-at.invariant c.in-Some.ensures.steps (sym c.is_utf8.ensures ∙ c.if-not-is_utf8.true)).0

pub returns-then-not-is_utf8-clause-starts_after : goal.returns-then-not-is_utf8-clause-starts_after
returns-then-not-is_utf8-clause-starts_after c =
    (names-bad c.loop-at.invariant c.in-Some.ensures.steps (sym c.is_utf8.ensures ∙ c.if-not-is_utf8.true)).1.0

pub returns-then-not-is_utf8-clause-lens_after : goal.returns-then-not-is_utf8-clause-lens_after
returns-then-not-is_utf8-clause-lens_after c =
    (names-bad c.loop-at.invariant c.in-Some.ensures.steps (sym c.is_utf8.ensures ∙ c.if-not-is_utf8.true)).1.1

pub returns-then-max-n-clause-result_value : goal.returns-then-max-n-clause-result_value
returns-then-max-n-clause-result_value c =
    (names-full c.loop-at.invariant c.in-Some.ensures.steps (sym c.is_utf8.ensures ∙ c.if-not-is_utf8.false) c.if-max-n.true).0

pub returns-then-max-n-clause-starts_after : goal.returns-then-max-n-clause-starts_after
returns-then-max-n-clause-starts_after c =
    (names-full c.loop-at.invariant c.in-Some.ensures.steps (sym c.is_utf8.ensures ∙ c.if-not-is_utf8.false) c.if-max-n.true).1.0

pub returns-then-max-n-clause-lens_after : goal.returns-then-max-n-clause-lens_after
returns-then-max-n-clause-lens_after c =
    (names-full c.loop-at.invariant c.in-Some.ensures.steps (sym c.is_utf8.ensures ∙ c.if-not-is_utf8.false) c.if-max-n.true).1.1

pub returns-clause-result_value : goal.returns-clause-result_value
returns-clause-result_value c =
    (names-end c.loop-at.invariant c.in-None.ensures.steps.0).0

pub returns-clause-starts_after : goal.returns-clause-starts_after
returns-clause-starts_after c =
    (names-end c.loop-at.invariant c.in-None.ensures.steps.0).1.0

pub returns-clause-lens_after : goal.returns-clause-lens_after
returns-clause-lens_after c =
    (names-end c.loop-at.invariant c.in-None.ensures.steps.0).1.1
