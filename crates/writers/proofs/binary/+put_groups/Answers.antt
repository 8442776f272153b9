-- `put_groups` meets its contract.
use mathlib.Core.Path.{refl, ap}
use native.Mathlib.Omega.{arith}
use lib.ListN.{length}
use Rattle.writers.proofs.SevenBit.{groups-one, length_more, put-more}
use Rattle.writers.proofs.binary.+put_groups.Goals as goal

pub write_escaped-requires : goal.write_escaped-requires
write_escaped-requires t c = omega (arith, ap length (groups-one c.args.more c.args.n c.if-n-lt128.true c.group.ensures))

pub returns-then-n-lt128 : goal.returns-then-n-lt128
returns-then-n-lt128 t c = rw (groups-one c.args.more c.args.n c.if-n-lt128.true c.group.ensures) c.write_escaped.ensures

pub put_groups-end-requires : goal.put_groups-end-requires
put_groups-end-requires t c =
    (omega arith, (omega arith, omega (arith, length_more c.args.more c.args.n (omega arith) (omega arith) refl)))

pub write_escaped-requires-2 : goal.write_escaped-requires-2
write_escaped-requires-2 t c = omega (arith, length_more c.args.more c.args.n (omega arith) (omega arith) c.group-2.ensures)

pub returns : goal.returns
returns t c =
    put-more c.args.more c.args.n (omega arith) (omega arith) c.group-2.ensures _ _
    c.put_groups-end.ensures c.write_escaped-2.ensures
