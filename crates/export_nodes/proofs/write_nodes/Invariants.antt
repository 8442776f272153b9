-- `write_nodes` meets its contract. The loop's invariant: what is left to write gives all of it.
use Rattle.export_nodes.specs.Tables.{slots_of}
use Rattle.export_nodes.proofs.Writing.{Writing}
use Rattle.export_nodes.proofs.write_nodes.Given as goal

abbrev pub invariant-loop-i : goal.invariant-loop-i
invariant-loop-i l =
    Writing l.ascii (slots_of l.store) l.nodes l.numbers l.seats l.initial.out l.at l.out l.next l.i
