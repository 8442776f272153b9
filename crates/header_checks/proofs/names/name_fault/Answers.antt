-- `name_fault` meets its contract: how many names there are and two of the lists, then the third.
use mathlib.Core.Path.{refl, ◌∙◌}
use native.Mathlib.Omega.{arith}
use Rattle.std.proofs.lemmas.Result.{err_from_is_err_and}
use Rattle.codes.proofs.Numbered.{refuses-with, passes-on}
use Rattle.header_checks.proofs.Agreeing.{permids-ids, names-judged}
use Rattle.header_checks.proofs.names.name_fault.Goals as goal

pub returns-in_err-ordered_fault : goal.returns-in_err-ordered_fault
returns-in_err-ordered_fault c =
    let p = err_from_is_err_and c.from_residual.result c.from_residual.ensures.1 in
    record { answer = rw (p.1, p.2) (names-judged c.requires.ids_read c.in_err-ordered_fault.ensures.answer (refuses-with _ _ refl)) }

pub varnames_fault-requires-clause-permids_len : goal.varnames_fault-requires-clause-permids_len
varnames_fault-requires-clause-permids_len c =
    permids-ids c.requires.ids_read

pub varnames_fault-requires-clause-long_names : goal.varnames_fault-requires-clause-long_names
varnames_fault-requires-clause-long_names c =
    let l = c.requires.long_names in
    record {
      names_long = omega (arith, l.names2_long, c.ordered_fault.auto.names2);
      lens_long = omega (arith, l.lens2_long, c.ordered_fault.auto.lens2);
      names2_long = omega (arith, l.names_long, c.ordered_fault.auto.names);
      lens2_long = omega (arith, l.lens_long, c.ordered_fault.auto.lens);
    }

pub returns : goal.returns
returns c =
    record { answer = names-judged c.requires.ids_read c.in_ok-ordered_fault.ensures.answer (c.varnames_fault.ensures.answer ∙ passes-on _ refl) }
