-- `keeps_rules` meets its contract: where all parts but the last say yes the last one decides, and where the rules hold they say yes.
use mathlib.Core.Bool.{true≢false}
use mathlib.Core.Path.{sym, ◌∙◌}
use native.Mathlib.Omega.{arith}
use Rattle.codes.specs.Limits.{limits}
use Rattle.std.proofs.Common.{rules}
use Rattle.store.specs.Held.{held}
use Rattle.store.specs.Rules.{Sizes, Chains, Zeros}
use Rattle.store.specs.Keeps.{says-no, is-keeps}
use Rattle.node_rules.specs.Check.{AllFit}
use Rattle.rules.proofs.Parts.{by_alone}
use Rattle.rules.proofs.keeps_rules.Goals as goal

pub returns-then-zeros_kept : goal.returns-then-zeros_kept
returns-then-zeros_kept c =
    let z : Sizes limits (held c.args.store.now) = search rules in
    let f : AllFit (held c.args.store.now) = search rules in
    let h : Chains (held c.args.store.now) = search rules in
    let y : Zeros (held c.args.store.now) = search rules in
    record { kept = by_alone _ z f h y c.all_alone.ensures.alone; found = c.all_alone.ensures.found }

pub returns-else-zeros_kept : goal.returns-else-zeros_kept
returns-else-zeros_kept c =
    record {
      kept = is-keeps _ _ _ (rw c.if-zeros_kept.false (says-no (λ R.
          let z = R.sizes in
          let f : AllFit (held c.args.store.now) = R.nodes.fits in
          let h : Chains (held c.args.store.now) = R.chains in
          let y = R.zeros in
          grind (arith, z, f, h, y))));
      found = λ q. absurd (true≢false (sym q ∙ c.if-zeros_kept.false));
    }
