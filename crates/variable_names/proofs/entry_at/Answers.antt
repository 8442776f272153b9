use mathlib.Core.Path.{◌≡◌, sym, ap, ◌∙◌}
use Prim.Native.Nat.{suc, ◌-◌}
use native.Mathlib.Omega.{arith}
use Rattle.variable_names.specs.Names.{entry_at}
use Rattle.variable_names.proofs.entry_at.Goals as goal

pub returns : goal.returns
returns c =
    let s : c.args.seat ≡ suc (c.args.seat - 1) = omega (arith, c.if-seat-eq0.false) in c.entry.ensures ∙ sym (ap (entry_at c.args.from.now) s)
