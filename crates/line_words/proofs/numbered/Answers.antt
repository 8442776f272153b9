-- The position after the number, which was read, lies inside the line.
use native.Mathlib.Omega.{arith}
use Rattle.line_words.proofs.WordEnds.{first-within}
use Rattle.line_words.proofs.numbered.Goals as goal

pub returns-clause-word_within : goal.returns-clause-word_within
returns-clause-word_within c =
    (omega arith, first-within _ _ c.in_ok-v.ensures)
