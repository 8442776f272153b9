-- What a turn answers. Document 02, request 5: 'slot lists unequal or shorter than the old count, or other than 256 heads, meet 1, before 3.' It is
-- accepted exactly where the lists can take the store and the store keeps the old rules, and refused with a number exactly where the rule of that
-- number is the first that is broken.
use mathlib.Core.Path.{◌≡◌, refl, sym, subst, ◌∙◌}
use mathlib.Core.Logic.{◌↔◌}
use mathlib.Core.Bool.{Bool, true, false, ◌&&◌, true≢false}
use mathlib.Core.List.{[], ◌∷◌}
use Prim.Native.Nat.{ℕ, zero, suc}
use native.Mathlib.Omega.{arith}
use lib.Dec.{eqb, leb}
use borrow.Author.Tests.{eqb-true, eq-eqb, leb-true, le-leb}
use Rattle.codes.specs.Answer.{Read, value, refused}
use Rattle.codes.specs.Faults.{first_fault, unless}
use Rattle.codes.proofs.Bytes.{both}
use Rattle.store.specs.Store.{Store}
use Rattle.store.specs.Keeps.{keeps, keeps-true, keeps-false}
use Rattle.widened.specs.OldLimits.{old_limits}
use Rattle.widened.specs.Old.{OldRules}
use Rattle.widened.specs.Widen.{NewLengths, Takes, takes, widen_fault, widened, zeroed, answer_by, widen_answer, left_by, widen_of}
use Rattle.widened.specs.Widen.{WidenRefused, new_short, old_broken}
use Rattle.widened.proofs.Old.{old-rules}

-- lists that can take the store
pub takes-true : (l : NewLengths) (count : ℕ) → takes l count ≡ true → Takes l count
takes-true l count q =
    let t : Bool = eqb l.then l.level in
    let e : Bool = eqb l.els l.level in
    let n : Bool = eqb l.next l.level in
    let s : Bool = leb count l.level in
    let a = both (t && e && n && s) (eqb l.heads 256) q in
    let b = both (t && e && n) s a.0 in
    let c = both (t && e) n b.0 in
    let d = both t e c.0 in
    record {
      then_long = eqb-true l.then l.level d.0;
      els_long = eqb-true l.els l.level d.1;
      next_long = eqb-true l.next l.level c.1;
      slots = leb-true count l.level b.1;
      heads_long = eqb-true l.heads 256 a.1;
    }

true-takes : (l : NewLengths) (count : ℕ) → Takes l count → takes l count ≡ true
true-takes l count T = rw (
  eq-eqb l.then l.level T.then_long,
  eq-eqb l.els l.level T.els_long,
  eq-eqb l.next l.level T.next_long,
  le-leb count l.level T.slots,
  eq-eqb l.heads 256 T.heads_long,
)

-- one refusal is the other, and none is an answer
one-refusal : (a b : ℕ) → ◌≡◌ {A = Read Unit} (refused a) (refused b) → a ≡ b
one-refusal a b q = cc

no_answer : {A : Type 0} (n : ℕ) → ◌≡◌ {A = Read Unit} (refused n) (value tt) → A
no_answer n q = let y : ◌≡◌ {A = ℕ} 0 1 = cc in absurd (omega arith)

no-refusal : {A : Type 0} (n : ℕ) → ◌≡◌ {A = Read Unit} (value tt) (refused n) → A
no-refusal n q = let y : ◌≡◌ {A = ℕ} 0 1 = cc in absurd (omega arith)

module _ (l : NewLengths) (σ : Store) where
  -- the three ways that a turn goes, in their order
  pub widen-cases : (P : ℕ → Type 0) → ((Takes l σ.count → ⊥) → P 1) → (Takes l σ.count → (OldRules σ → ⊥) → P 3)
      → (Takes l σ.count → OldRules σ → P 0) → P (widen_fault l σ)
  unfolding widen_fault first_fault
  widen-cases P f g h = go (takes l σ.count) refl (keeps old_limits σ) refl
    where
      go : (t : Bool) → takes l σ.count ≡ t → (k : Bool) → keeps old_limits σ ≡ k → P (first_fault (unless t 1 ∷ unless k 3 ∷ []))
      go false p k q = f (λ T. true≢false (sym (true-takes l σ.count T) ∙ p))
      go true p false q = g (takes-true l σ.count p) (λ R. keeps-false old_limits σ q ((old-rules σ).0 R))
      go true p true q = h (takes-true l σ.count p) ((old-rules σ).1 (keeps-true old_limits σ q))

  -- A turn is refused with a number exactly so,
  pub widen-refused-exactly : (n : ℕ) → (widen_answer l σ ≡ refused n) ↔ WidenRefused l σ n
  widen-refused-exactly n = (
    widen-cases (λ k. answer_by k ≡ refused n → WidenRefused l σ n)
        (λ w q. subst (WidenRefused l σ) (one-refusal 1 n q) (new_short w))
        (λ T w q. subst (WidenRefused l σ) (one-refusal 3 n q) (old_broken T w)) (λ T R q. no-refusal n q),
    λ w. back w,
  )
    where
      back : {n : ℕ} → WidenRefused l σ n → widen_answer l σ ≡ refused n
      back (new_short w) = widen-cases (λ k. answer_by k ≡ refused 1) (λ v. refl) (λ T v. absurd (w T)) (λ T R. absurd (w T))
      back (old_broken T w) = widen-cases (λ k. answer_by k ≡ refused 3) (λ v. absurd (v T)) (λ U v. refl) (λ U R. absurd (w R))

  -- and accepted exactly where the lists can take the store and it keeps the old rules.
  pub widen-accepted : (widen_answer l σ ≡ value tt) ↔ (Takes l σ.count × OldRules σ)
  widen-accepted = (
    widen-cases (λ k. answer_by k ≡ value tt → Takes l σ.count × OldRules σ) (λ w q. no_answer 1 q) (λ T w q. no_answer 3 q) (λ T R q. (T, R)),
    λ x. widen-cases (λ k. answer_by k ≡ value tt) (λ w. absurd (w x.0)) (λ T w. absurd (w x.1)) (λ T R. refl),
  )

  -- What it leaves: the turned store, or zeros.
  pub accepted-left : widen_answer l σ ≡ value tt → widen_of l σ ≡ widened l.level σ
  unfolding widen_of
  accepted-left q = go (widen_fault l σ) q
    where
      go : (k : ℕ) → answer_by k ≡ value tt → left_by k l σ ≡ widened l.level σ
      go zero q = refl
      go (suc k) q = no_answer (suc k) q

  pub refused-left : (n : ℕ) → widen_answer l σ ≡ refused n → widen_of l σ ≡ zeroed l σ.levels
  unfolding widen_of
  refused-left n q = go (widen_fault l σ) q
    where
      go : (k : ℕ) → answer_by k ≡ refused n → left_by k l σ ≡ zeroed l σ.levels
      go zero q = no-refusal n q
      go (suc k) q = refl
