-- `backward` meets its contract: what is left to trim gives what the whole does.
use mathlib.Core.Path.{sym, ◌∙◌}
use native.Mathlib.Omega.{arith}
use Rattle.read_lines.proofs.Searches.{trim-past, trim-found, trim_end}
use Rattle.read_lines.proofs.backward.Goals as goal

pub returns-then-not-is_of-clause-value : goal.returns-then-not-is_of-clause-value
returns-then-not-is_of-clause-value c =
    sym (c.loop-i.invariant ∙ trim-found _ _ _ _ c.loop-i-test.true (sym c.is_of.ensures ∙ c.if-not-is_of.true) ∙ omega arith)

pub loop-i-preserved : goal.loop-i-preserved
loop-i-preserved c =
    c.loop-i.invariant ∙ trim-past _ _ _ _ c.loop-i-test.true (sym c.is_of.ensures ∙ c.if-not-is_of.false)

pub returns-clause-value : goal.returns-clause-value
returns-clause-value c =
    sym (c.loop-i.invariant ∙ trim_end _ _ _ _ c.loop-i-test.false)
