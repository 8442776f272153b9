-- `forward` meets its contract: what is left to search gives what the whole search gives.
use mathlib.Core.Path.{◌≡◌, sym, ◌∙◌}
use native.Mathlib.Omega.{arith}
use Rattle.read_lines.proofs.Searches.{seek_found, seek-past, seek-end}
use Rattle.read_lines.proofs.forward.Goals as goal

pub returns-then-is_of-clause-value : goal.returns-then-is_of-clause-value
returns-then-is_of-clause-value c =
    sym (c.loop-i.invariant ∙ seek_found _ _ _ _ c.loop-i-test.true (sym c.is_of.ensures ∙ c.if-is_of.true))

pub loop-i-preserved : goal.loop-i-preserved
loop-i-preserved c =
    c.loop-i.invariant ∙ seek-past _ _ _ _ c.loop-i-test.true (sym c.is_of.ensures ∙ c.if-is_of.false)

pub returns-clause-value : goal.returns-clause-value
returns-clause-value c =
    let e : c.loop-i.i ≡ c.args.end = omega arith in
    sym (c.loop-i.invariant ∙ seek-end _ _ _ _ c.loop-i-test.false ∙ e)
