-- `turn` meets its contract: where nothing refuses before a node is looked at, what the check of the copy says is what the turn says.
use Rattle.std.proofs.Common.{sym, ap, subst, ◌∙◌}
use Rattle.std.proofs.lemmas.Result.{err_from_is_err_and}
use Rattle.codes.specs.Refusals.{fault_of}
use Rattle.store.specs.Store.{Store, store}
use Rattle.widened.specs.Widen.{lengths_of}
use Rattle.old_stores.specs.Promises.{held_old, Judged}
use Rattle.widening.specs.Course.{copy_fault}
use Rattle.widening.proofs.Turning.{copied-lengths, copy-fault, copy-left}
use Rattle.widening.proofs.turn.Goals as goal

pub returns-in_err-copy_fault-clause-fault : goal.returns-in_err-copy_fault-clause-fault
returns-in_err-copy_fault-clause-fault c =
    let p = err_from_is_err_and c.from_residual-in_err-copy_fault.result c.from_residual-in_err-copy_fault.ensures.1 in
    rw (p.1, p.2) (ap fault_of (sym c.in_err-copy_fault.was)
    ∙ copy-fault _ _ (subst (λ τ. Judged (lengths_of τ) (held_old c.args.old.now) 0) c.as_ref-lent.ensures c.in_ok-parts_fault.ensures) _ _
    c.from.ensures c.from-2.ensures _ c.copy_store.ensures.copied c.copy_fault.result (c.copy_fault.ensures
    ∙ ap (λ (σ : Store). copy_fault 0 (store σ.levels c.from-2.result σ.level σ.then σ.els σ.next σ.heads)) c.as_ref-copy.ensures))

pub returns-in_err-copy_fault-clause-lengths : goal.returns-in_err-copy_fault-clause-lengths
returns-in_err-copy_fault-clause-lengths c = copied-lengths _ _ _ _ _ c.copy_store.ensures.copied

pub returns-clause-fault : goal.returns-clause-fault
returns-clause-fault c =
    ap fault_of (sym c.in_ok-copy_fault.was)
    ∙ copy-fault _ _ (subst (λ τ. Judged (lengths_of τ) (held_old c.args.old.now) 0) c.as_ref-lent.ensures c.in_ok-parts_fault.ensures) _ _
    c.from.ensures c.from-2.ensures _ c.copy_store.ensures.copied c.copy_fault.result (c.copy_fault.ensures
    ∙ ap (λ (σ : Store). copy_fault 0 (store σ.levels c.from-2.result σ.level σ.then σ.els σ.next σ.heads)) c.as_ref-copy.ensures)

pub returns-clause-store : goal.returns-clause-store
returns-clause-store c =
    copy-left _ _ (subst (λ τ. Judged (lengths_of τ) (held_old c.args.old.now) 0) c.as_ref-lent.ensures c.in_ok-parts_fault.ensures) _ _
    c.from.ensures c.from-2.ensures _ c.copy_store.ensures.copied c.copy_fault.result (c.copy_fault.ensures
    ∙ ap (λ (σ : Store). copy_fault 0 (store σ.levels c.from-2.result σ.level σ.then σ.els σ.next σ.heads)) c.as_ref-copy.ensures)
    _ c.from-new.ensures c.in_ok-copy_fault.was

pub returns-clause-lengths : goal.returns-clause-lengths
returns-clause-lengths c = copied-lengths _ _ _ _ _ c.copy_store.ensures.copied
