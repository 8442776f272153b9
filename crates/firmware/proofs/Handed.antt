-- A store that is made of lists that C lends one by one: what they hold in the end is what the store holds.
use mathlib.Core.Path.{◌≡◌, sym, ap, ◌∙◌}
use mathlib.Core.List.{List}
use Prim.Native.Nat.{ℕ}
use lib.IntN.{ℤ}
use Rattle.codes.specs.Limits.{limits}
use Rattle.store.specs.Store.{Store, store}
use Rattle.store.specs.Held.{held_mut}
use Rattle.store.specs.declared.StoreMut.{StoreMut}
use Rattle.joined.specs.declared.Op.{Op}
use Rattle.joined.specs.Roots.{join_roots}
use Rattle.joined.proofs.Roots.{join-extends}
use Rattle.widened.specs.Widen.{NewLengths, widen_of}
use Rattle.widening.proofs.Turning.{widen-levels}
use Rattle.calls.specs.Load.{Load, load_of}
use Rattle.calls.specs.Calls.{load}
use Rattle.calls.proofs.Growing.{call-grows}

module _ (s : StoreMut) (levels : ℕ) (level : List ℕ) (then els : List ℤ) (next heads : List ℕ) where
  -- its level count stays, and each list holds what the store's does
  pub handed-back : levels ≡ s.levels → level ≡ s.level.now → then ≡ s.then.now → els ≡ s.els.now → next ≡ s.next.now → heads ≡ s.heads.now
      → store levels s.count level then els next heads ≡ held_mut s
  handed-back a b c d e f = rw (a, b, c, d, e, f)

-- the level count stays, whatever a load answers
pub load-levels : (c : Load) (σ τ : Store) → τ ≡ (load_of limits c σ).after → σ.levels ≡ τ.levels
load-levels c σ τ e = sym (ap (λ υ. υ.levels) e ∙ (call-grows limits (load c) σ).levels)

-- whatever a join answers
pub join-levels : (o : Op) (σ : Store) (a b : ℤ) (τ : Store) → τ ≡ (join_roots limits o σ a b).after → σ.levels ≡ τ.levels
join-levels o σ a b τ e = sym (ap (λ υ. υ.levels) e ∙ (join-extends limits o σ a b).grows.levels)

-- and whatever a turn answers, it is the old store's
pub turned-levels : (l : NewLengths) (σ τ : Store) → τ ≡ widen_of l σ → σ.levels ≡ τ.levels
turned-levels l σ τ e = sym (ap (λ υ. υ.levels) e ∙ widen-levels l σ)
