-- Laws of the checks of a header as a whole, one after the other.
use mathlib.Core.Path.{◌≡◌, refl, ap, ◌∙◌}
use mathlib.Core.List.{List, [], ◌∷◌, ◌++◌, append_assoc}
use Prim.Native.Nat.{ℕ, zero, suc}
use Rattle.codes.specs.Limits.{Limits}
use Rattle.header_lines.specs.Sweep.{Span}
use Rattle.header_values.specs.Values.{nnodes_in, nvars_in, nsuppvars_in}
use Rattle.std.specs.Prelude.{Ok, Err}
use Rattle.codes.specs.Faults.{first_fault}
use Rattle.codes.specs.Refusals.{number_of, fault_at}
use Rattle.codes.specs.declared.refusal.Refusal.{Refusal}
use Rattle.codes.proofs.Numbered.{number-not-none}
use Rattle.header_checks.specs.Promises.{whole_of}
use Rattle.header_checks.specs.Whole.{number_faults, numbers_fault, support_faults, name_count_faults, name_faults, root_faults}
use Rattle.header_checks.specs.Whole.{whole_fault, whole_after, NumbersPass}
use Rattle.codes.proofs.Faults.{front-refuses, front-passes}

-- the first refusal of some checks, before others, is that of all
pub first_then : (xs ys : List ℕ) → first_fault (first_fault xs ∷ ys) ≡ first_fault (xs ++ ys)
unfolding first_fault
first_then [] ys = refl
first_then (zero ∷ xs) ys = first_then xs ys
first_then (suc n ∷ xs) ys = refl

-- the answer of a refusal's number
whole_err : (n : ℕ) → (n ≡ 0 → ⊥) → Err (record { number = n; line = 0 }) ≡ whole_of n
whole_err zero h = absurd (h refl)
whole_err (suc n) h = refl

-- what was found before comes first
pub whole-found : (m : Limits) (found : ℕ) (f : List ℕ) (t : List Span) → (found ≡ 0 → ⊥)
    → Err (record { number = found; line = 0 }) ≡ whole_of (whole_after m found f t)
whole-found m zero f t h = absurd (h refl)
whole-found m (suc n) f t h = refl

-- nothing was: the header as a whole decides
module _ {found : ℕ} (m : Limits) (f : List ℕ) (t : List Span) (z : found ≡ 0) where
  pub whole-refused : (r : Refusal) → number_of r ≡ whole_fault m f t → Err (fault_at r 0) ≡ whole_of (whole_after m found f t)
  whole-refused r e = rw z (whole_err (number_of r) (number-not-none r) ∙ ap whole_of e)

  pub whole-passes : 0 ≡ whole_fault m f t → Ok tt ≡ whole_of (whole_after m found f t)
  whole-passes e = rw z (ap whole_of e)

module _ (m : Limits) (f : List ℕ) (t : List Span) where
  -- the answer about the numbers, each as its reader gives it
  pub numbers-are : {nvars nnodes nsuppvars r : ℕ} → nvars ≡ nvars_in f t → nnodes ≡ nnodes_in f t → nsuppvars ≡ nsuppvars_in f t
      → r ≡ first_fault (number_faults m nvars nnodes nsuppvars) → r ≡ numbers_fault m f t
  numbers-are v n w e = rw (v, n, w) at e

  -- one is refused
  pub number-refused : {r : ℕ} → r ≡ numbers_fault m f t → (r ≡ 0 → ⊥) → r ≡ whole_fault m f t
  unfolding whole_fault
  number-refused e h = front-refuses _ _ e h

  -- none is: the answer about the support variables
  module _ (h : NumbersPass m f t) {s : ℕ} (p : s ≡ first_fault (support_faults f t)) where
    -- one is refused
    pub support-refused : (s ≡ 0 → ⊥) → s ≡ whole_fault m f t
    unfolding whole_fault
    support-refused k = front-refuses _ _ p k ∙ front-passes _ _ refl h

    -- none is: the answer about the number of names
    module _ (k : s ≡ 0) {x : ℕ} (q : x ≡ first_fault (name_count_faults f t)) where
      -- none is: the answer about the names
      module _ (l : x ≡ 0) {y : ℕ} (g : y ≡ first_fault (name_faults f t)) where
        -- they aren't: the answer about the roots decides
        pub names-passed : y ≡ 0 → {u : ℕ} → u ≡ first_fault (root_faults f t) → u ≡ whole_fault m f t
        unfolding whole_fault
        names-passed z a = a ∙ front-passes _ _ g z ∙ front-passes _ _ q l ∙ front-passes _ _ p k ∙ front-passes _ _ refl h

    -- none is: the answer about the names, and after it the one about the roots
    pub named-roots : s ≡ 0 → {y r : ℕ} → y ≡ first_fault (name_count_faults f t ++ name_faults f t) → r ≡ first_fault (y ∷ root_faults f t)
        → r ≡ whole_fault m f t
    unfolding whole_fault
    named-roots k {y} {r} q e =
        let g : first_fault (y ∷ root_faults f t) ≡ first_fault (name_count_faults f t ++ (name_faults f t ++ root_faults f t))
        = ap (λ x. first_fault (x ∷ root_faults f t)) q
        ∙ first_then (name_count_faults f t ++ name_faults f t) (root_faults f t)
        ∙ ap first_fault (append_assoc (name_count_faults f t) (name_faults f t) (root_faults f t)) in
        e ∙ g ∙ front-passes _ _ p k ∙ front-passes _ _ refl h
