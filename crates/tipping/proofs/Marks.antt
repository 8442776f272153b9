-- Answers that are remembered.
use Prim.Native.Nat.{ℕ, zero, suc, ◌-◌, ◌≤◌, ◌<◌}
use mathlib.Core.Path.{◌≡◌, refl, sym, ap, ◌∙◌}
use mathlib.Core.Logic.{◌≢◌}
use mathlib.Core.Bool.{Bool, true, false, cond, ◌&&◌}
use mathlib.Core.List.{List}
use native.Mathlib.Omega.{arith}
use native.Mathlib.Decide.{ℕ_discrete}
use lib.Dec.{eqb, leb, ltb}
use lib.ListN.{length, get_or, set, replicate, get_or-eq_default}
use lib.Seq.{get_or-set_same, get_or-set_other}
use borrow.Author.Tests.{le-leb, lt-leb, lt-ltb, le-ltb, ltb-true, leb-true, leb-false}
use Rattle.codes.proofs.Bytes.{both}
use Rattle.store.specs.Store.{Store}
use Rattle.store.specs.Meaning.{Setting, node}
use Rattle.store.proofs.Meaning.{node-one}
use Rattle.tipping.specs.Course.{mark_of, recall_of, open_at, Marked}

-- what a mark says
pub mark-says : (b : Bool) → eqb (mark_of b) 2 ≡ b
mark-says true = refl
mark-says false = refl

module _ (marks : List ℕ) (n : ℕ) where
  -- recalling, by the code's tests
  pub recall-one : n ≤ 1 → 2 ≡ recall_of marks n
  unfolding recall_of
  recall-one h = rw (le-leb n 1 h)

  pub recall-read : 2 ≤ n → {x : ℕ} → x ≡ get_or marks (n - 1) 0 → x ≡ recall_of marks n
  unfolding recall_of
  recall-read h q = q ∙ rw (lt-leb n 1 h)

  pub recall-beyond : 2 ≤ n → length marks ≤ n - 1 → 0 ≡ recall_of marks n
  recall-beyond p h = recall-read p (sym (get_or-eq_default marks 0 h))

  -- where nothing is, it is no node 1
  pub recall-none : recall_of marks n ≡ 0 → 2 ≤ n
  unfolding recall_of
  recall-none q = of (leb n 1) refl q
    where
      of : (b : Bool) → leb n 1 ≡ b → cond b 2 (get_or marks (n - 1) 0) ≡ 0 → 2 ≤ n
      of true h q = absurd (omega (arith, q))
      of false h q = leb-false n 1 h

  -- whether a node may be marked
  pub open-one : n ≤ 1 → false ≡ open_at marks n
  unfolding open_at
  open-one h = rw (le-ltb 1 n h)

  pub open-beyond : 2 ≤ n → length marks < n → false ≡ open_at marks n
  unfolding open_at
  open-beyond p h = rw (lt-ltb 1 n p, lt-leb n (length marks) h)

  pub open-read : 2 ≤ n → n ≤ length marks → eqb (get_or marks (n - 1) 0) 0 ≡ open_at marks n
  unfolding open_at
  open-read p h = rw (lt-ltb 1 n p, le-leb n (length marks) h)

  pub open-inside : open_at marks n ≡ true → (2 ≤ n) × (n ≤ length marks)
  unfolding open_at
  open-inside q =
      let w = both (ltb 1 n) (leb n (length marks)) (both (ltb 1 n && leb n (length marks)) (eqb (get_or marks (n - 1) 0) 0) q).0 in
      (ltb-true 1 n w.0, leb-true n (length marks) w.1)

-- a list of zeros says nothing
zero-mark : (k i : ℕ) → ◌≡◌ {A = ℕ} (get_or (replicate k 0) i 0) 0
zero-mark zero i = refl
zero-mark (suc k) zero = refl
zero-mark (suc k) (suc i) = zero-mark k i

module _ (σ : Store) (s : Setting) where
  pub marked-zeros : (k : ℕ) → Marked σ s (replicate k 0)
  marked-zeros k i h = absurd (h (zero-mark k i))

  module _ (marks : List ℕ) (M : Marked σ s marks) where
    -- What is remembered is the node's answer.
    pub recalled : (n : ℕ) → 1 ≤ n → recall_of marks n ≢ 0 → recall_of marks n ≡ mark_of (node σ s n)
    recalled zero p h = absurd (omega arith)
    recalled (suc zero) p h = sym (recall-one marks 1 (omega arith)) ∙ ap mark_of (sym (node-one σ s))
    recalled (suc (suc k)) p h =
        let i : suc k ≡ suc (suc k) - 1 = omega arith in
        let q : get_or marks (suc k) 0 ≡ recall_of marks (suc (suc k)) = recall-read marks (suc (suc k)) (omega arith) (ap (λ j. get_or marks j 0) i) in
        sym q ∙ M (suc k) (λ z. h (sym q ∙ z))

    -- One more answer is remembered.
    pub marked-set : (n : ℕ) → 1 ≤ n → n ≤ length marks → Marked σ s (set marks (n - 1) (mark_of (node σ s n)))
    marked-set n p l i h = of (ℕ_discrete i (n - 1))
      where
        of : Dec (i ≡ n - 1) → get_or (set marks (n - 1) (mark_of (node σ s n))) i 0 ≡ mark_of (node σ s (suc i))
        of (yes z) =
            let e : suc i ≡ n = omega (arith, z) in
            rw (z, get_or-set_same marks (n - 1) (mark_of (node σ s n)) 0 (omega arith)) (ap (λ k. mark_of (node σ s k)) (sym (rw z at e)))
        of (no z) =
            let q = get_or-set_other marks (n - 1) i (mark_of (node σ s n)) 0 z in
            q ∙ M i (λ y. h (q ∙ y))
