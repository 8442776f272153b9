-- `parts_fault` meets its contract: each return names what is wrong, and the last one has none.
use mathlib.Core.Path.{sym, ◌∙◌}
use Rattle.old_stores.proofs.Judging.{judged-short, judged-broken}
use Rattle.old_stores.proofs.parts_fault.Goals as goal
use Rattle.old_stores.proofs.parts_fault.Goals.{then-not-sizes_kept-via-then-not-sizes_kept, then-not-sizes_kept-via-else-not-sizes_kept+then-not-zeros_kept}

pub returns-then-not-lists_take : goal.returns-then-not-lists_take
returns-then-not-lists_take c =
    judged-short _ _ (rw c.from.ensures at (sym c.lists_take.ensures ∙ c.if-not-lists_take.true))

pub returns-then-not-sizes_kept : goal.returns-then-not-sizes_kept
returns-then-not-sizes_kept c =
    judged-broken _ _ (rw c.from.ensures at (sym c.lists_take.ensures ∙ c.if-not-lists_take.false))
    (λ R. elim c.then-not-sizes_kept.branch [
      | then-not-sizes_kept-via-then-not-sizes_kept w ↦ c.sizes_kept.ensures.no w.if-not-sizes_kept.true R.sizes
      | then-not-sizes_kept-via-else-not-sizes_kept+then-not-zeros_kept w ↦ w.zeros_kept.ensures.no w.if-not-zeros_kept.true R.zeros
    ])
