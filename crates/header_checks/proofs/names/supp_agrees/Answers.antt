-- `supp_agrees` meets its contract: a list that isn't given says nothing.
use mathlib.Core.Path.{sym}
use borrow.Author.Tests.{eqb-true}
use Rattle.header_checks.proofs.Agreeing.{places-long, not_empty, first-missing, second-missing, both-given}
use Rattle.header_checks.proofs.names.supp_agrees.Goals.{then-is_empty-via-then-is_empty, then-is_empty-via-else-is_empty+then-is_empty-2}
use Rattle.header_checks.proofs.names.supp_agrees.Goals as goal

pub returns-then-is_empty : goal.returns-then-is_empty
returns-then-is_empty c =
    let r = c.requires in
    elim c.then-is_empty.branch [
      | then-is_empty-via-then-is_empty w ↦ record {
        answer = first-missing _ _ _ _ _
            (places-long _ _ r.lens_len) (eqb-true _ _ (sym w.if-is_empty.ensures));
      }
      | then-is_empty-via-else-is_empty+then-is_empty-2 w ↦ record {
        answer = second-missing _ _ _ _ _
            (places-long _ _ r.lens_len) (not_empty _ w.if-is_empty.ensures) (places-long _ _ r.lens2_len) (eqb-true _ _ (sym w.if-is_empty-2.ensures));
      }
    ]

pub returns : goal.returns
returns c =
    let r = c.requires in
    record {
      answer = both-given _ _ _ _ _
          (places-long _ _ r.lens_len) (not_empty _ c.if-is_empty.ensures) (places-long _ _ r.lens2_len) (not_empty _ c.if-is_empty-2.ensures)
          c.same_in_order.ensures.answer;
    }
