-- `put` meets its contract: a store behind the list's end changes nothing.
use mathlib.Core.Path.{sym}
use lib.Seq.{set_out}
use Rattle.read_lists.proofs.put.Goals as goal

pub returns-else-at-dst : goal.returns-else-at-dst
returns-else-at-dst g c =
    sym (set_out _ _ _ c.if-at-dst.false)
