-- `whole_fault` meets its contract: the numbers, the support variables, the names, the roots.
use mathlib.Core.Path.{refl, sym, ◌∙◌}
use Rattle.std.proofs.lemmas.Result.{err_from_is_err_and}
use Rattle.codes.proofs.Numbered.{refuses-with, number-not-none, passes-on}
use Rattle.header_keys.specs.declared.Key.TheVariants.{Ids, Permids}
use Rattle.header_checks.proofs.Numbered.{few_vars}
use Rattle.header_checks.proofs.Supporting.{read_fits, read_is, read-long, ids-number, permids-number}
use Rattle.header_checks.proofs.Checked.{whole-found, whole-refused, whole-passes, number-refused, support-refused, named-roots}
use Rattle.header_checks.proofs.whole_fault.Goals as goal

pub returns-then-found-ne0 : goal.returns-then-found-ne0
returns-then-found-ne0 c =
    record { answer = whole-found _ _ _ _ c.if-found-ne0.true; ids_left = λ z. cc; permids_left = λ z. cc }

pub returns-in_err-numbers_fault : goal.returns-in_err-numbers_fault
returns-in_err-numbers_fault c =
    let p = err_from_is_err_and c.from_residual.result c.from_residual.ensures.1 in
    let w = whole-refused _ _ _ c.if-found-ne0.false _ (number-refused _ _ _ c.in_err-numbers_fault.ensures (number-not-none _)) in
    record { answer = rw (p.1, p.2) w; ids_left = λ z. cc; permids_left = λ z. cc }

pub support_fault-requires-clause-ends_bound : goal.support_fault-requires-clause-ends_bound
support_fault-requires-clause-ends_bound c =
    few_vars _ _ _ _ (sym c.in_ok-numbers_fault.ensures)

pub returns-in_err-support_fault : goal.returns-in_err-support_fault
returns-in_err-support_fault c =
    let p = err_from_is_err_and c.from_residual-in_err-support_fault.result c.from_residual-in_err-support_fault.ensures.1 in
    let e = support-refused _ _ _ (sym c.in_ok-numbers_fault.ensures) c.in_err-support_fault.ensures.answer (number-not-none _) in
    let w = whole-refused _ _ _ c.if-found-ne0.false _ e in
    record { answer = rw (p.1, p.2) w; ids_left = λ z. cc; permids_left = λ z. cc }

pub slice_bounds-name_fault-end : goal.slice_bounds-name_fault-end
slice_bounds-name_fault-end c =
    let s = c.in_ok-support_fault.ensures in
    read_fits _ _ Ids (c.requires.long_after c.if-found-ne0.false).ids_long (c.number_in-n.ensures ∙ sym (ids-number _ _ (sym s.answer))) s.ids_left

pub slice_bounds-name_fault-end-2 : goal.slice_bounds-name_fault-end-2
slice_bounds-name_fault-end-2 c =
    let s = c.in_ok-support_fault.ensures in
    read-long _ _ Ids (c.requires.long_after c.if-found-ne0.false).ids_long (c.number_in-n.ensures ∙ sym (ids-number _ _ (sym s.answer))) s.ids_left

pub slice_bounds-name_fault-end-3 : goal.slice_bounds-name_fault-end-3
slice_bounds-name_fault-end-3 c =
    let s = c.in_ok-support_fault.ensures in
    read_fits _ _ Permids (c.requires.long_after c.if-found-ne0.false).permids_long (c.number_in-n.ensures ∙ sym (permids-number _ _ (sym s.answer)))
    s.permids_left

pub slice_bounds-name_fault-end-4 : goal.slice_bounds-name_fault-end-4
slice_bounds-name_fault-end-4 c =
    let s = c.in_ok-support_fault.ensures in
    read-long _ _ Permids (c.requires.long_after c.if-found-ne0.false).permids_long (c.number_in-n.ensures ∙ sym (permids-number _ _ (sym s.answer)))
    s.permids_left

pub name_fault-requires-clause-ids_read : goal.name_fault-requires-clause-ids_read
name_fault-requires-clause-ids_read c =
    let l = c.requires.long_after c.if-found-ne0.false in
    let s = c.in_ok-support_fault.ensures in
    let n = ids-number _ _ (sym s.answer) in
    let m = permids-number _ _ (sym s.answer) in
    record {
      listed = record {
        ids_are = read_is _ _ Ids l.ids_long (c.number_in-n.ensures ∙ sym n) s.ids_left;
        permids_are = read_is _ _ Permids l.permids_long (c.number_in-n.ensures ∙ sym m) s.permids_left;
      };
      ids_counted = n;
      permids_counted = m;
    }

pub returns-in_err-name_fault : goal.returns-in_err-name_fault
returns-in_err-name_fault c =
    let p = err_from_is_err_and c.from_residual-in_err-name_fault.result c.from_residual-in_err-name_fault.ensures.1 in
    let e =
    named-roots _ _ _ (sym c.in_ok-numbers_fault.ensures) c.in_ok-support_fault.ensures.answer refl c.in_err-name_fault.ensures.answer
    (refuses-with _ _ refl) in
    let w = whole-refused _ _ _ c.if-found-ne0.false _ e in
    record { answer = rw (p.1, p.2) w; ids_left = λ z. cc; permids_left = λ z. cc }

pub returns-in_err-root_fault : goal.returns-in_err-root_fault
returns-in_err-root_fault c =
    let p = err_from_is_err_and c.from_residual-in_err-root_fault.result c.from_residual-in_err-root_fault.ensures.1 in
    let e =
    named-roots _ _ _ (sym c.in_ok-numbers_fault.ensures) c.in_ok-support_fault.ensures.answer refl c.in_ok-name_fault.ensures.answer
    (c.in_err-root_fault.ensures ∙ passes-on _ refl) in
    let w = whole-refused _ _ _ c.if-found-ne0.false _ e in
    record { answer = rw (p.1, p.2) w; ids_left = λ z. cc; permids_left = λ z. cc }

pub returns : goal.returns
returns c =
    let s = c.in_ok-support_fault.ensures in
    let e =
    named-roots _ _ _ (sym c.in_ok-numbers_fault.ensures) s.answer refl c.in_ok-name_fault.ensures.answer
    (c.in_ok-root_fault.ensures ∙ passes-on _ refl) in
    record { answer = whole-passes _ _ _ c.if-found-ne0.false e; ids_left = λ z. s.ids_left; permids_left = λ z. s.permids_left }
