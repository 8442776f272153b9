-- `same_bytes` meets its contract. The invariant: the first i bytes are the same, and the rest decides.
use mathlib.Core.Path.{sym, ◌∙◌}
use Rattle.variable_names.proofs.Alike.{bytes-start, bytes-more, bytes-unlike, bytes-end}
use Rattle.variable_names.proofs.same_bytes.Goals as goal

pub loop-i-init : goal.loop-i-init
loop-i-init c =
    bytes-start _ _ _ _

pub returns-then-byte : goal.returns-then-byte
returns-then-byte c =
    bytes-unlike c.loop-i.invariant c.loop-i-test.true
    (λ e. c.if-byte.true (c.byte.ensures ∙ e ∙ sym c.byte-in-loop-i.ensures))

pub loop-i-preserved : goal.loop-i-preserved
loop-i-preserved c =
    bytes-more c.loop-i.invariant c.loop-i-test.true
    (sym c.byte.ensures ∙ c.if-byte.false ∙ c.byte-in-loop-i.ensures)

pub returns : goal.returns
returns c =
    bytes-end c.loop-i.invariant c.loop-i-test.false
