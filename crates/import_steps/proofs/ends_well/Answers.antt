-- `ends_well` meets its contract: the bytes at the position are `.end`, or others.
use mathlib.Core.Path.{refl}
use native.Mathlib.Omega.{arith}
use Rattle.import_steps.proofs.FileEnd.{ends-past, ends-other, ends_so}
use Rattle.import_steps.proofs.ends_well.Goals as goal

pub returns-in_default : goal.returns-in_default
returns-in_default c =
    ends-past _ _ (omega (arith, c.in_default.ensures.lookup.0))

pub returns-in_default-strip_prefix : goal.returns-in_default-strip_prefix
returns-in_default-strip_prefix c =
    ends-other _ _ c.in-Some.ensures.lookup.0.2 c.in_default-strip_prefix.ensures.cases refl

pub returns : goal.returns
returns c =
    let p = c.in-Some-strip_prefix.ensures.cases in
    ends_so _ _ c.in-Some.ensures.lookup.0.2 p.0 refl p.1 c.blank_all.ensures
