-- `same_bytes` meets its contract. The invariant: the first i bytes are the same, and the rest decides.
use Rattle.variable_names.proofs.Alike.{BytesLeft}
use Rattle.variable_names.proofs.same_bytes.Given as goal

abbrev pub invariant-loop-i : goal.invariant-loop-i
invariant-loop-i l =
    BytesLeft l.f l.a l.b l.n l.i
