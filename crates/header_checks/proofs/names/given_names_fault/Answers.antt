-- `given_names_fault` meets its contract: how many names there are, then the comparison.
use mathlib.Core.Path.{refl}
use Rattle.std.proofs.lemmas.Result.{err_from_is_err_and}
use Rattle.codes.proofs.Numbered.{number-not-none}
use Rattle.header_checks.proofs.Agreeing.{counts-refused, supp-like, supp-unlike}
use Rattle.header_checks.proofs.names.given_names_fault.Goals as goal

pub returns-in_err-name_count_fault : goal.returns-in_err-name_count_fault
returns-in_err-name_count_fault c =
    let p = err_from_is_err_and c.from_residual.result c.from_residual.ensures.1 in
    record {
      answer = rw (p.1, p.2) (counts-refused _ _ c.requires.names_held c.requires.names_held_2 _ c.in_err-name_count_fault.ensures (number-not-none _));
    }

pub returns-then-supp_agrees : goal.returns-then-supp_agrees
returns-then-supp_agrees c =
    record {
      answer = supp-like _ _ c.requires.names_held c.requires.names_held_2 _ c.in_ok-name_count_fault.ensures refl c.supp_agrees.ensures.answer
          c.if-supp_agrees.true;
    }

pub returns : goal.returns
returns c =
    record {
      answer = supp-unlike _ _ c.requires.names_held c.requires.names_held_2 _ c.in_ok-name_count_fault.ensures refl c.supp_agrees.ensures.answer
          c.if-supp_agrees.false;
    }
