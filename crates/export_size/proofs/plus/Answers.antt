-- `plus` meets its contract: a division tells whether the multiple is within what is left, before the multiple is made.
use native.Mathlib.Omega.{arith}
use Rattle.export_size.proofs.Sums.{limited_cases, has_room, no_room}
use Rattle.export_size.proofs.plus.Goals as goal

pub returns-then-max-total-clause-value : goal.returns-then-max-total-clause-value
returns-then-max-total-clause-value c =
    let p = no_room _ _ _ _ c.requires.held c.requires.times_nonzero c.if-max-total.true in
    grind (arith, limited_cases)

pub returns-clause-value : goal.returns-clause-value
returns-clause-value c =
    let p = has_room _ _ _ _ c.requires.held c.requires.times_nonzero c.if-max-total.false in
    grind (arith, limited_cases)
