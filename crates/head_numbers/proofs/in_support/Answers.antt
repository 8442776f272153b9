-- `in_support` meets its contract: a level is in the support where it has a seat.
use mathlib.Core.Path.{sym}
use lib.ListN.{get_or}
use Rattle.heading.proofs.Support.{in-seated}
use Rattle.head_numbers.proofs.in_support.Goals as goal

pub returns : goal.returns
returns c =
    sym (in-seated c.args.seats.now (get_or c.args.order.now c.args.v 0))
