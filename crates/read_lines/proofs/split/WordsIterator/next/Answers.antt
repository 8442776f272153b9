-- `next` meets its contract: the two searches find the first word, and what is left of the line has the others.
use mathlib.Core.Path.{ap}
use native.Mathlib.Omega.{arith}
use lib.ListN.{length}
use borrow.Author.Rules.{rules}
use Rattle.read_lines.proofs.Found.{no_word, next_word}
use Rattle.read_lines.proofs.split.WordsIterator.next.Goals as goal

pub returns-then-start-line-clause-steps : goal.returns-then-start-line-clause-steps
returns-then-start-line-clause-steps c =
    let none = no_word _ _ c.forward-start.ensures.value c.if-start-line.true in (none, none)

pub returns-clause-steps : goal.returns-clause-steps
returns-clause-steps c =
    next_word _ _ c.forward-start.ensures.value (omega arith) c.forward-end.ensures.value

pub returns-clause-goes : goal.returns-clause-goes
returns-clause-goes c =
    let step = next_word c.args.self.now.at _ c.forward-start.ensures.value (omega arith) c.forward-end.ensures.value in
    let shorter = ap length step in search rules
