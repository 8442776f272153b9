-- Which of document 01's numbers a header as a whole is refused with: 19 to 26.
use mathlib.Core.Path.{◌≡◌, refl, subst}
use mathlib.Core.Bool.{◌||◌}
use mathlib.Core.List.{List}
use mathlib.Core.Logic.{◌⊎◌, inl, inr, ⊎_elim}
use Prim.Native.Nat.{ℕ, ◌≤◌}
use native.Mathlib.Omega.{arith}
use lib.ListN.{length}
use lib.Dec.{ltb, eqb}
use Rattle.codes.specs.Limits.{Limits, var_limit, root_limit}
use Rattle.codes.specs.Faults.{first_fault, when}
use Rattle.codes.proofs.Faults.{none_in, first-in, front-in}
use Rattle.codes.proofs.Refusals.{when-in, unless-in}
use Rattle.header_lines.specs.Sweep.{Span}
use Rattle.header_keys.specs.declared.Key.TheVariants.{Ids, Permids, Auxids, Rootnames}
use Rattle.support.specs.Support.{ids_fit, permids_fit}
use Rattle.file_roots.specs.Roots.{roots_fault}
use Rattle.file_roots.proofs.RootRefusals.{roots-numbers}
use Rattle.header_values.specs.Values.{nnodes_in, nvars_in, nsuppvars_in, nroots_in, u32s_in, names_in, roots_in}
use Rattle.header_checks.specs.Names.{varnames_in, orderedvarnames_in, suppvarnames_in, varnames_agree, supp_by_varnames, supp_by_ordered}
use Rattle.header_checks.specs.Whole.{count_fault, given_fault, number_faults, support_faults, name_count_faults, name_faults, root_faults, whole_fault}

-- no refusal, or a number from 19 to 26
abbrev Whole : ℕ → Type 0
Whole n = (n ≡ 0) ⊎ ((19 ≤ n) × (n ≤ 26))

count-in : (want n : ℕ) → Whole (count_fault want n)
count-in want n = unless-in Whole (inl refl) {n = 21} (inr (omega arith)) (eqb n want)

given-in : (want n : ℕ) → Whole (given_fault want n)
given-in want n = unless-in Whole (inl refl) {n = 21} (inr (omega arith)) (eqb n 0 || eqb n want)

roots-in : (nnodes : ℕ) (f : List ℕ) (t : List Span) → Whole (roots_fault nnodes (roots_in f t))
roots-in nnodes f t = ⊎_elim inl (⊎_elim (λ z. inr (omega arith)) (λ z. inr (omega arith))) (roots-numbers nnodes (roots_in f t) _ refl)

numbers-in : (m : Limits) (nvars nnodes nsuppvars : ℕ) → Whole (first_fault (number_faults m nvars nnodes nsuppvars))
unfolding number_faults
numbers-in m nvars nnodes nsuppvars =
    first-in Whole (when (ltb var_limit nvars) 19) _ (when-in Whole (inl refl) {n = 19} (inr (omega arith)) (ltb var_limit nvars))
    (first-in Whole (when (ltb m.nodes nnodes) 19) _ (when-in Whole (inl refl) {n = 19} (inr (omega arith)) (ltb m.nodes nnodes))
    (first-in Whole (when (ltb nvars nsuppvars) 20) _ (when-in Whole (inl refl) {n = 20} (inr (omega arith)) (ltb nvars nsuppvars))
    (none_in Whole (inl refl))))

module _ (m : Limits) (f : List ℕ) (t : List Span) where
  support-in : Whole (first_fault (support_faults f t))
  unfolding support_faults
  support-in =
      first-in Whole _ _ (count-in (nsuppvars_in f t) (length (u32s_in f t Ids)))
      (first-in Whole _ _ (count-in (nsuppvars_in f t) (length (u32s_in f t Permids)))
      (first-in Whole _ _ (given-in (nsuppvars_in f t) (length (u32s_in f t Auxids)))
      (first-in Whole _ _ (unless-in Whole (inl refl) {n = 22} (inr (omega arith)) (ids_fit (nvars_in f t) (u32s_in f t Ids)))
      (first-in Whole _ _ (unless-in Whole (inl refl) {n = 23} (inr (omega arith)) (permids_fit (nvars_in f t) (u32s_in f t Permids)))
      (none_in Whole (inl refl))))))

  name-counts-in : Whole (first_fault (name_count_faults f t))
  unfolding name_count_faults
  name-counts-in =
      first-in Whole _ _ (given-in (nvars_in f t) (length (orderedvarnames_in f t)))
      (first-in Whole _ _ (given-in (nsuppvars_in f t) (length (suppvarnames_in f t)))
      (first-in Whole _ _ (given-in (nvars_in f t) (length (varnames_in f t)))
      (none_in Whole (inl refl))))

  names-in : Whole (first_fault (name_faults f t))
  unfolding name_faults
  names-in =
      first-in Whole _ _ (unless-in Whole (inl refl) {n = 24} (inr (omega arith)) (varnames_agree f t))
      (first-in Whole _ _ (unless-in Whole (inl refl) {n = 24} (inr (omega arith)) (supp_by_varnames f t))
      (first-in Whole _ _ (unless-in Whole (inl refl) {n = 24} (inr (omega arith)) (supp_by_ordered f t))
      (none_in Whole (inl refl))))

  root-lists-in : Whole (first_fault (root_faults f t))
  unfolding root_faults
  root-lists-in =
      first-in Whole _ _ (count-in (nroots_in f t) (length (roots_in f t)))
      (first-in Whole _ _ (roots-in (nnodes_in f t) f t)
      (first-in Whole _ _ (given-in (nroots_in f t) (length (names_in root_limit f t Rootnames)))
      (none_in Whole (inl refl))))

  -- A header as a whole has no refusal, or a number from 19 to 26.
  pub whole_numbers : (n : ℕ) → whole_fault m f t ≡ n → (n ≡ 0) ⊎ ((19 ≤ n) × (n ≤ 26))
  unfolding whole_fault
  whole_numbers n e =
      subst Whole e
      (front-in Whole (number_faults m (nvars_in f t) (nnodes_in f t) (nsuppvars_in f t)) _ (numbers-in m (nvars_in f t) (nnodes_in f t) (nsuppvars_in f t))
      (front-in Whole (support_faults f t) _ support-in
      (front-in Whole (name_count_faults f t) _ name-counts-in (front-in Whole (name_faults f t) _ names-in root-lists-in))))
