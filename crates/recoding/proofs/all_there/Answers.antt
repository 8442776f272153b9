-- `all_there` meets its contract: the library goes over the lengths as the definition does.
use mathlib.Core.Path.{refl, sym, ◌∙◌}
use mathlib.Core.Bool.{◌&&◌}
use lib.Dec.{ltb}
use borrow.Author.Rules.{rules}
use Rattle.std.proofs.Common.{tests}
use Rattle.std.specs.List.{list_all}
use Rattle.std.proofs.lemmas.Iterator.{YieldsList-from_slice}
use Rattle.std.proofs.lemmas.Iterator.Search.{all_from_yields_List}
use Rattle.std.proofs.lemmas.List.Recursion.{same_from_clauses}
use Rattle.recoding.specs.Recode.{all_there}
use Rattle.recoding.proofs.all_there.Goals as goal

pub returns : goal.returns
unfolding all_there
returns c =
    let s = c.args.lens.now in
    all_from_yields_List (ltb 0) _ _ c.all.result c.all.ensures.ran (YieldsList-from_slice s cc) (λ x b q k. search (rules, tests))
    ∙ sym (same_from_clauses all_there (list_all (ltb 0)) (λ x b. ltb 0 x && b) refl (λ _ _. refl) (λ _ _. refl) s)
