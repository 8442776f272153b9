-- `roots_fit` meets its contract.
use lib.IntN.{pos}
use lib.ListN.{get_or}
use mathlib.Core.Path.{sym, ◌∙◌}
use mir.Val.{SFits}
use mir.ValLaws.{to_z-of_z}
use native.Mathlib.Omega.{arith}
use Rattle.edges.specs.Width.{edge_width}
use Rattle.std.proofs.Common.{rules}
use Rattle.export_faults.proofs.Roots.{roots-many, roots-start, roots-more, roots-unfit, roots-end}
use Rattle.export_faults.proofs.roots_fit.Goals as goal

pub returns-then-roots-gt-ROOT_LIMIT : goal.returns-then-roots-gt-ROOT_LIMIT
returns-then-roots-gt-ROOT_LIMIT c = roots-many _ _ (omega arith)

pub loop-root-init : goal.loop-root-init
loop-root-init c = roots-start _ _ (omega arith)

pub returns-then-not-is_root : goal.returns-then-not-is_root
returns-then-not-is_root c =
    let f : SFits edge_width (get_or c.args.roots.now c.loop-root.root-index (pos 0)) = search rules in
    let e = simp to_z-of_z at c.is_root.ensures in
    roots-unfit _ _ _ c.loop-root.invariant c.loop-root-test.true (sym e ∙ c.if-not-is_root.true)

pub loop-root-preserved : goal.loop-root-preserved
loop-root-preserved c =
    let f : SFits edge_width (get_or c.args.roots.now c.loop-root.root-index (pos 0)) = search rules in
    let e = simp to_z-of_z at c.is_root.ensures in
    roots-more _ _ _ c.loop-root.invariant c.loop-root-test.true (sym e ∙ c.if-not-is_root.false)

pub returns : goal.returns
returns c = roots-end _ _ _ c.loop-root.invariant (omega arith)
