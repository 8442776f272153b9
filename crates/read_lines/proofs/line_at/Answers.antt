-- `line_at` meets its contract: the two searches are those of `line_of`.
use Rattle.read_lines.proofs.Searches.{line-ended, line-last}
use Rattle.read_lines.proofs.line_at.Goals as goal

pub returns-then-feed-f-clause-value : goal.returns-then-feed-f-clause-value
returns-then-feed-f-clause-value c =
    line-ended _ _ _ _ c.forward-feed.ensures.value c.backward-end.ensures.value c.if-feed-f.true

pub returns-else-feed-f-clause-value : goal.returns-else-feed-f-clause-value
returns-else-feed-f-clause-value c =
    line-last _ _ _ _ c.forward-feed.ensures.value c.backward-end.ensures.value c.if-feed-f.false
