-- `enter` meets its contract.
use mathlib.Core.Path.{sym}
use native.Mathlib.Omega.{arith}
use Rattle.insertion.proofs.Knowing.{entered_at, entered-none}
use Rattle.insertion.proofs.enter.Goals as goal

pub offset_bounds-index-at : goal.offset_bounds-index-at
offset_bounds-index-at c =
    omega (arith, c.requires (omega (arith, c.if-width-ne0.true)))

pub bounds-index-at : goal.bounds-index-at
bounds-index-at c =
    c.requires (omega (arith, c.if-width-ne0.true))

pub returns-then-width-ne0 : goal.returns-then-width-ne0
returns-then-width-ne0 c =
    sym (entered_at c.args.width _ _ _ (omega (arith, c.if-width-ne0.true)))

pub returns-else-width-ne0 : goal.returns-else-width-ne0
returns-else-width-ne0 c =
    sym (entered-none _ _ _ _ c.if-width-ne0.false)
