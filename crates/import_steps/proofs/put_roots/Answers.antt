-- At the end of the loop all roots are put.
use native.Mathlib.Omega.{arith}
use Rattle.import_steps.proofs.RootsPut.{put-end}
use Rattle.import_steps.proofs.put_roots.Goals as goal

pub returns : goal.returns
returns c =
    put-end c.args.ok c.args.edges.now c.loop-r.invariant (omega arith)
