-- `blank_all` meets its contract: the library goes over the bytes as the definition does.
use mathlib.Core.Path.{refl, sym, ◌∙◌}
use mathlib.Core.Bool.{◌&&◌}
use borrow.Author.Rules.{rules}
use Rattle.std.proofs.Common.{tests}
use Rattle.std.specs.List.{list_all}
use Rattle.std.proofs.lemmas.Iterator.{YieldsList-from_slice}
use Rattle.std.proofs.lemmas.Iterator.Search.{all_from_yields_List}
use Rattle.std.proofs.lemmas.List.Recursion.{same_from_clauses}
use Rattle.codes.specs.Bytes.{is_whitespace}
use Rattle.imported.specs.Import.{blank_all}
use Rattle.import_steps.proofs.blank_all.Goals as goal

pub returns : goal.returns
unfolding blank_all
returns c =
    let s = c.args.rest.now in
    all_from_yields_List is_whitespace _ _ c.all.result c.all.ensures.ran (YieldsList-from_slice s cc) (λ x b q k. search (rules, tests))
    ∙ sym (same_from_clauses blank_all (list_all is_whitespace) (λ x b. is_whitespace x && b) refl (λ _ _. refl) (λ _ _. refl) s)
