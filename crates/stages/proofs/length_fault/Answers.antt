-- `length_fault` meets its contract.
use Rattle.header.proofs.Lengths.{length_found, length_over, length-within}
use Rattle.stages.proofs.length_fault.Goals as goal

pub returns-then-found-ne0 : goal.returns-then-found-ne0
returns-then-found-ne0 c =
    length_found _ _ c.if-found-ne0.true

pub returns-then-len-gt-INPUT_LIMIT : goal.returns-then-len-gt-INPUT_LIMIT
returns-then-len-gt-INPUT_LIMIT c =
    rw c.number.ensures (length_over _ _ c.if-found-ne0.false c.if-len-gt-INPUT_LIMIT.true)

pub returns : goal.returns
returns c =
    length-within _ _ c.if-found-ne0.false c.if-len-gt-INPUT_LIMIT.false
