use native.Mathlib.Omega.{arith}
use Rattle.variable_names.proofs.Gathered.{laying-length, gathering-start, gathering-own, gathering-owned}
use Rattle.variable_names.proofs.gather_own.Goals as goal

pub loop-i-init : goal.loop-i-init
loop-i-init c =
    gathering-start _ _ _

pub bounds-dst-i : goal.bounds-dst-i
bounds-dst-i c =
    omega (arith, c.requires, c.loop-i-test.true, laying-length c.loop-i.invariant.laying)

pub loop-i-preserved : goal.loop-i-preserved
loop-i-preserved c =
    gathering-own c.loop-i.invariant c.loop-i-test.true c.requires c.entry_at.ensures

pub shape_of-dst : goal.shape_of-dst
shape_of-dst c =
    laying-length c.loop-i.invariant.laying

pub returns : goal.returns
returns c =
    gathering-owned c.loop-i.invariant c.loop-i-test.false
