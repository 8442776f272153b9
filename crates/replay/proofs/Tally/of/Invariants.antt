-- The end wasn't met, and each turn counted a case.
use Rattle.std.proofs.Common.{◌≡◌, None}
use Rattle.replay.proofs.Tally.of.Given as goal

abbrev pub invariant-loop : goal.invariant-loop
invariant-loop g l = record { goes_on : l.t.end ≡ None; counted : l.t.cases ≡ l.counter }
