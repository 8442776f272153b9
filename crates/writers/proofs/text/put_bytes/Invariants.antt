-- `put_bytes` meets its contract. The loop's invariant: what is left to write gives all that is to be written.
use Rattle.writers.proofs.Sets.{Storing}
use Rattle.writers.proofs.text.put_bytes.Given as goal

abbrev pub invariant-loop-i : goal.invariant-loop-i
invariant-loop-i l =
    Storing l.initial.out l.at l.bytes l.out l.i
