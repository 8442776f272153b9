-- `put_bytes` meets its contract: what is left to write gives all that is to be written.
use mathlib.Core.Path.{refl}
use Rattle.writers.proofs.Sets.{storing-start, storing-more, storing-end}
use Rattle.writers.proofs.text.put_bytes.Goals as goal

pub loop-i-init : goal.loop-i-init
loop-i-init c =
    storing-start _ _ _

pub loop-i-preserved : goal.loop-i-preserved
loop-i-preserved c =
    storing-more c.loop-i.invariant c.loop-i-test.true

pub returns : goal.returns
returns c =
    record { next = refl; bytes = storing-end c.loop-i.invariant c.loop-i-test.false }
