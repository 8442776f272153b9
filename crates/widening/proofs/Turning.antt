-- The course of a turn, as the code goes about it: what refuses it, and what is left then and else, by the steps.
use mathlib.Core.Path.{◌≡◌, refl, sym, ap, ◌∙◌}
use mathlib.Core.Bool.{cond, true, false, true≢false}
use mathlib.Core.List.{[]}
use Prim.Native.Nat.{ℕ, zero, suc, ◌≤◌}
use native.Mathlib.Omega.{arith}
use borrow.Author.Tests.{ne_eqb}
use lib.Dec.{eqb}
use lib.ListN.{replicate, length-replicate}
use lib.IntN.{pos}
use Rattle.codes.proofs.Lent.{length-laid}
use Rattle.codes.specs.Answer.{refused}
use Rattle.std.specs.Prelude.{Result, Ok, Err, OnOk, is_err}
use Rattle.codes.specs.Lent.{laid}
use Rattle.codes.specs.Refusals.{number_of, read_of, fault_of}
use Rattle.codes.specs.declared.refusal.Refusal.{Refusal}
use Rattle.codes.proofs.Numbered.{number-positive}
use Rattle.store.specs.Store.{Store, store}
use Rattle.widened.specs.Widen.{NewLengths, lengths_of, widen_fault, widened, zeroed, answer_by, left_by, widen_of}
use Rattle.old_stores.specs.Promises.{Judged, CopyPromise}
use Rattle.widening.specs.Course.{copy_fault, kept_unless}
use Rattle.widening.proofs.Steps.{copy-widened as copy-turned, steps-fault, steps-left}

-- the lengths stay
pub copied-lengths : (n k : ℕ) (σ τ υ : Store) → CopyPromise n k σ τ υ → lengths_of υ ≡ lengths_of τ
copied-lengths n k σ τ υ P =
    rw (P.level_left, P.then_left, P.els_left, P.next_left, P.heads_left)
    (simp (length-laid, length-replicate))

-- an answer by what refuses
pub answer-is : (r : Result Unit Refusal) {n : ℕ} → fault_of r ≡ n → read_of r ≡ answer_by n
answer-is r q = rw (← q) (go r)
  where
    by_number : (n : ℕ) → 1 ≤ n → refused n ≡ answer_by n
    by_number zero h = absurd (omega arith)
    by_number (suc n) h = refl

    go : (r : Result Unit Refusal) → read_of r ≡ answer_by (fault_of r)
    go (Ok u) = refl
    go (Err e) = by_number (number_of e) (number-positive e)

-- whatever the turn answers, the level count is the old one's
pub widen-levels : (l : NewLengths) (σ : Store) → (widen_of l σ).levels ≡ σ.levels
unfolding widen_of widened zeroed
widen-levels l σ = go (widen_fault l σ)
  where
    go : (n : ℕ) → (left_by n l σ).levels ≡ σ.levels
    go zero = refl
    go (suc n) = refl

-- where something was found, the other of two,
otherwise : {A : Type 0} (f : ℕ) (x y : A) → y ≡ cond (eqb (suc f) 0) x y
otherwise f x y = rw (ne_eqb (suc f) 0 (λ q. omega arith))

-- and zeros in place of a list
kept-none : {A : Type 0} (f : ℕ) (d : A) (n : ℕ) → replicate n d ≡ kept_unless (suc f) d (laid [] (replicate n d))
unfolding laid
kept-none f d n = rw (length-replicate n d) (otherwise f (replicate n d) (replicate n d))

-- σ is the old store, τ the new one as it was lent
module _ (σ τ : Store) where
  abbrev l : NewLengths
  l = lengths_of τ

  -- Whatever refuses the turn, what is left is what would be had it been found before anything was copied.
  as-found : (f : ℕ) → suc f ≡ widen_fault l σ → Judged l σ (suc f)
  as-found f q = record { none = λ z. absurd (omega (arith, z)); found = λ h. sym q }

  zeroed-by : (n : ℕ) → 1 ≤ n → n ≡ widen_fault l σ → zeroed l σ.levels ≡ widen_of l σ
  unfolding zeroed
  zeroed-by zero h q = absurd (omega arith)
  zeroed-by (suc f) h q =
      steps-left l σ (suc f) (as-found f q) {n = 0} {k = 0} {c = 0} {f = suc f} {g = 0} (otherwise f _ _) (otherwise f _ _) (otherwise f _ _)
      refl refl refl refl refl (otherwise f _ _) (kept-none f 0 l.level) (kept-none f (pos 0) l.then) (kept-none f (pos 0) l.els)
      (kept-none f 0 l.next) (kept-none f 0 l.heads) (otherwise f _ _)

  -- what is left where the turn is refused, and where it isn't
  pub refused-left : (r : Result Unit Refusal) → is_err r ≡ true → fault_of r ≡ widen_fault l σ → zeroed l σ.levels ≡ widen_of l σ
  refused-left (Ok u) h q = absurd (true≢false (sym h))
  refused-left (Err e) h q = zeroed-by (number_of e) (number-positive e) q

  pub turned-left : (r : Result Unit Refusal) (υ : Store) → is_err r ≡ false → fault_of r ≡ widen_fault l σ → OnOk r (υ ≡ widened l.level σ)
      → υ ≡ widen_of l σ
  unfolding widen_of
  turned-left (Ok u) υ h q e = rw (← q) e
  turned-left (Err e) υ h q f = absurd (true≢false h)

  whole-left : 0 ≡ widen_fault l σ → widen_of l σ ≡ widened l.level σ
  unfolding widen_of
  whole-left q = ap (λ n. left_by n l σ) (sym q)

  -- Nothing was found before. So many nodes are copied, and counted.
  module _ (J : Judged l σ 0) (n k : ℕ) (N : n ≡ σ.count) (K : k ≡ σ.count) (υ : Store) (P : CopyPromise n 256 σ τ υ) where
    -- The copy is the store turned, whether it keeps the rules or not.
    pub copy-widened : store σ.levels k υ.level υ.then υ.els υ.next υ.heads ≡ widened l.level σ
    copy-widened =
        let w = J.none refl in
        rw (P.level_left, P.then_left, P.els_left, P.next_left, P.heads_left, N, K) (copy-turned l σ w.0 w.1.0 w.1.1)

    -- r is what the check of the copy says:
    module _ (r : Result Unit Refusal) (F : fault_of r ≡ copy_fault 0 (store σ.levels k υ.level υ.then υ.els υ.next υ.heads)) where
      -- it is what the turn says,
      pub copy-fault : fault_of r ≡ widen_fault l σ
      copy-fault =
          steps-fault l σ 0 J N refl K P.level_left P.then_left P.els_left P.next_left P.heads_left F refl refl refl refl refl refl

      -- and where it refuses nothing, the copy is what the turn leaves
      pub copy-left : {u : Unit} (g : ℕ) → g ≡ σ.count → r ≡ Ok u
          → store σ.levels g υ.level υ.then υ.els υ.next υ.heads ≡ widened l.level σ
      copy-left g G e =
          let z : 0 ≡ fault_of r = sym (ap fault_of e) in
          steps-left l σ 0 J {f = 0} N refl K P.level_left P.then_left P.els_left P.next_left P.heads_left (z ∙ F) refl refl refl refl refl G
          ∙ whole-left (z ∙ copy-fault)
