-- Laws of the checks of the header's numbers.
use mathlib.Core.Path.{◌≡◌, refl, sym, ◌∙◌}
use Prim.Native.Nat.{ℕ, ◌≤◌, ◌<◌}
use native.Mathlib.Omega.{arith}
use Rattle.codes.specs.Limits.{Limits, var_limit}
use mathlib.Core.List.{[], ◌∷◌}
use lib.Dec.{ltb}
use Rattle.codes.specs.Faults.{first_fault, when}
use Rattle.header_checks.specs.Whole.{number_faults}
use Rattle.codes.proofs.Faults.{first-none, rest-none, refuses, passes, last-check}
use Rattle.codes.proofs.Refusals.{over-refuses, within-passes, within_none}

module _ (m : Limits) (nvars nnodes nsuppvars : ℕ) where
  -- too many variables
  pub vars-over : var_limit < nvars → 19 ≡ first_fault (number_faults m nvars nnodes nsuppvars)
  unfolding number_faults
  vars-over h = refuses _ (sym (over-refuses var_limit nvars 19 h)) (λ z. omega arith)

  module _ (v : nvars ≤ var_limit) where
    -- too many nodes
    pub nodes-over : m.nodes < nnodes → 19 ≡ first_fault (number_faults m nvars nnodes nsuppvars)
    unfolding number_faults
    nodes-over h =
        refuses _ (sym (over-refuses m.nodes nnodes 19 h)) (λ z. omega arith)
        ∙ passes _ refl (within-passes var_limit nvars 19 v)

    module _ (n : nnodes ≤ m.nodes) where
      -- the third check decides
      third : first_fault (when (ltb nvars nsuppvars) 20 ∷ []) ≡ first_fault (number_faults m nvars nnodes nsuppvars)
      unfolding number_faults
      third = passes _ refl (within-passes m.nodes nnodes 19 n) ∙ passes _ refl (within-passes var_limit nvars 19 v)

      -- more support variables than variables
      pub supp-over : nvars < nsuppvars → 20 ≡ first_fault (number_faults m nvars nnodes nsuppvars)
      supp-over h = sym (over-refuses nvars nsuppvars 20 h) ∙ last-check _ ∙ third

      -- no refusal
      pub numbers-pass : nsuppvars ≤ nvars → 0 ≡ first_fault (number_faults m nvars nnodes nsuppvars)
      numbers-pass h = sym (within-passes nvars nsuppvars 20 h) ∙ last-check _ ∙ third

  module _ (h : first_fault (number_faults m nvars nnodes nsuppvars) ≡ 0) where
    -- where there is no refusal there are few variables
    pub few_vars : nvars ≤ var_limit
    unfolding number_faults
    few_vars = within_none var_limit nvars 18 (first-none _ _ h)

    -- and few support variables, since there are no more of them than variables
    pub few-supp : nsuppvars ≤ var_limit
    unfolding number_faults
    few-supp = omega (arith, few_vars, within_none nvars nsuppvars 19 (first-none _ _ (rest-none _ _ (rest-none _ _ h))))
