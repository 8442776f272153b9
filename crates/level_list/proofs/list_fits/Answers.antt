-- `list_fits` meets its contract: its length, the library's test of the neighbours, and what is asked of the last level.
use mathlib.Core.Path.{sym, ◌∙◌}
use Rattle.std.proofs.Common.{rules}
use borrow.Author.Tests.{tests}
use lib.Dec.{ltb}
use Rattle.std.proofs.lemmas.List.Sorted.{answers_always}
use Rattle.support.proofs.Ascending.{last-asked, sorted, unsorted}
use Rattle.level_list.proofs.LevelLists.{counted, miscounted}
use Rattle.level_list.proofs.list_fits.Goals as goal

pub returns-then-list-nsuppvars : goal.returns-then-list-nsuppvars
returns-then-list-nsuppvars c =
    sym (miscounted _ _ _ c.if-list-nsuppvars.true)

pub returns-then-is_sorted_by : goal.returns-then-is_sorted_by
returns-then-is_sorted_by c =
    sorted _ _ (c.is_sorted_by.ensures.cases ltb (answers_always _ _ _ (λ f a r q k. search (rules, tests)))) c.if-is_sorted_by.true
    (last-asked _ _ _ c.last.ensures.value c.is_none_or.ensures (λ x h. search (rules, tests)))
    ∙ sym (counted _ _ _ c.if-list-nsuppvars.false)

pub returns-else-is_sorted_by : goal.returns-else-is_sorted_by
returns-else-is_sorted_by c =
    unsorted _ _ (c.is_sorted_by.ensures.cases ltb (answers_always _ _ _ (λ f a r q k. search (rules, tests)))) c.if-is_sorted_by.false
    ∙ sym (counted _ _ _ c.if-list-nsuppvars.false)
