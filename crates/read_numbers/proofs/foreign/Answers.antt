-- `foreign` meets its contract: each arm of the match is one clause of `foreign`.
use borrow.Author.Tests.{eq-eqb, ne_eqb}
use Rattle.read_numbers.proofs.foreign.Goals as goal

pub returns-in-Single : goal.returns-in-Single
returns-in-Single c =
    rw c.in-Single.is

pub returns-in-Entry : goal.returns-in-Entry
returns-in-Entry c =
    rw c.in-Entry.is

pub returns-then-x-eq45 : goal.returns-then-x-eq45
returns-then-x-eq45 c =
    rw (c.in-Magnitude.is, eq-eqb _ _ c.if-x-eq45.true)

pub returns-else-x-eq45 : goal.returns-else-x-eq45
returns-else-x-eq45 c =
    rw (c.in-Magnitude.is, ne_eqb _ _ c.if-x-eq45.false)
