use lib.ListN.{length}
use Rattle.variable_names.proofs.Alike.{NamesLeft}
use Rattle.header_checks.specs.Names.{up_from}
use Rattle.header_checks.proofs.names.same_in_order.Given as goal

abbrev pub invariant-loop-i : goal.invariant-loop-i
invariant-loop-i l =
    NamesLeft l.f l.index l.starts l.lens (up_from (length l.index) 0) l.starts2 l.lens2 l.i
