-- `bits_only` meets its contract: it answers whether every byte is 00 or 01.
use Prim.Native.Nat.{ℕ, ◌≤◌, ◌<◌}
use mathlib.Core.Bool.{true}
use mathlib.Core.Logic.{◌↔◌}
use mathlib.Core.Path.{◌≡◌}
use lib.ListN.{length, get_or}
use Rattle.std.proofs.Common.{rules}
use Rattle.evaluation.proofs.Evaluating.{bits_decided}
use Rattle.evaluation.proofs.bits_only.Goals as goal

pub returns : goal.returns
returns c =
    let d : (c.all.result ≡ true) ↔ ((k : ℕ) → k < length c.args.setting.now → get_or c.args.setting.now k 0 ≤ 1) = search rules in
    bits_decided _ _ d
