-- `lengths_fault` meets its contract.
use Rattle.std.proofs.Common.{refl}
use Rattle.header.proofs.Lengths.{short-vars, short-roots, long-enough}
use Rattle.stages.proofs.lengths_fault.Goals as goal

pub returns-then-not-at_least : goal.returns-then-not-at_least
returns-then-not-at_least c =
    rw c.number.ensures (short-vars c.args.vars.now c.args.roots.now c.at_least.ensures (rw c.if-not-at_least.true refl))

pub returns-then-not-at_least-2 : goal.returns-then-not-at_least-2
returns-then-not-at_least-2 c =
    rw c.number-then-not-at_least-2.ensures (short-roots c.args.vars.now c.args.roots.now c.at_least.ensures (rw c.if-not-at_least.false refl)
    c.at_least-2.ensures (rw c.if-not-at_least-2.true refl))

pub returns : goal.returns
returns c =
    long-enough c.args.vars.now c.args.roots.now c.at_least.ensures (rw c.if-not-at_least.false refl) c.at_least-2.ensures (rw c.if-not-at_least-2.false refl)
