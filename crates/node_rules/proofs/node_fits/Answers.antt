-- `node_fits` meets its contract: a node that fits fails none of the tests before the else child's.
use Prim.Native.Nat.{◌<◌}
use mathlib.Core.Bool.{false}
use mathlib.Core.Path.{◌≡◌}
use native.Mathlib.Omega.{arith}
use mir.ValLaws.{to_z-of_z}
use Rattle.edges.specs.Edge.{minus, eq_z}
use Rattle.store.specs.Keeps.{says-no}
use Rattle.node_rules.proofs.Fit.{not_minus, not_alike, fits_then}
use Rattle.node_rules.proofs.node_fits.Goals as goal

pub returns-else-child_fits : goal.returns-else-child_fits
returns-else-child_fits c =
    rw c.if-child_fits.false (says-no (λ F.
    let low : c.args.l < c.args.store.now.levels = F.level_low in
    let plain : minus c.args.t ≡ false = not_minus _ _ _ _ _ F in
    let unlike : eq_z c.args.t c.args.e ≡ false = not_alike _ _ _ _ _ F in
    let over = fits_then _ _ _ _ _ F in
    grind (arith, to_z-of_z, over)))
