use mathlib.Core.Path.{◌∙◌}
use Rattle.header_lines.proofs.Tables.{table_none}
use Rattle.header.proofs.Answers.{swept-found, swept-first}
use Rattle.header.proofs.swept_after.Goals as goal

pub returns-then-found-ne0 : goal.returns-then-found-ne0
returns-then-found-ne0 c =
    record {
      answer = swept-found _ _ c.if-found-ne0.true;
      within = tt;
      table = rw (
        c.requires.starts_value,
        c.requires.ends_value,
      ) (table_none c.args.f.now);
      starts_left = λ z. absurd (c.if-found-ne0.true z);
      ends_left = λ z. absurd (c.if-found-ne0.true z);
    }

pub sweep-requires-clause-f_len_bound : goal.sweep-requires-clause-f_len_bound
sweep-requires-clause-f_len_bound c = c.requires.may_read c.if-found-ne0.false

pub returns : goal.returns
returns c =
    record {
      answer = c.sweep.ensures.result_value ∙ swept-first _ _ c.if-found-ne0.false;
      within = c.sweep.ensures.end_within;
      table = c.sweep.ensures.table;
      starts_left = λ z. c.sweep.ensures.starts_after;
      ends_left = λ z. c.sweep.ensures.ends_after;
    }
