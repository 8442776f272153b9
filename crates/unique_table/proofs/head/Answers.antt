-- `head` meets its contract: a mix of 30 bits times a width of at most 2 ^ 34 fits, and so do the numbers of two children.
use mathlib.Core.Path.{sym, subst}
use Prim.Native.Nat.{ℕ, ◌^◌, ◌<◌}
use mir.ValLaws.{to_z-of_z}
use Rattle.edges.specs.Width.{edge_width}
use Rattle.unique_table.proofs.Mixed.{head-narrow, head-wide, mix-below, part-fits}
use Rattle.unique_table.proofs.head.Goals as goal

pub overflow_mul-result : goal.overflow_mul-result
overflow_mul-result c =
    record { fits = part-fits _ _ (subst (λ (n : ℕ). n < 2 ^ 30) (sym c.mix-part.ensures) (mix-below _ _ _)) c.requires.1 }

pub returns-then-width-le-NARROW : goal.returns-then-width-le-NARROW
returns-then-width-le-NARROW c =
    let m = rw (to_z-of_z edge_width c.args.t c.ranges.t, to_z-of_z edge_width c.args.e c.ranges.e) at c.mix-part.ensures in
    head-narrow _ _ _ _ _ m c.if-width-le-NARROW.true

pub returns : goal.returns
returns c =
    let m = rw (to_z-of_z edge_width c.args.t c.ranges.t, to_z-of_z edge_width c.args.e c.ranges.e) at c.mix-part.ensures in
    let n = rw (to_z-of_z edge_width c.args.t c.ranges.t, to_z-of_z edge_width c.args.e c.ranges.e) at c.children.ensures.0 in
    head-wide _ _ _ _ _ _ m n c.if-width-le-NARROW.false
