-- Laws of the checks of how many names there are.
use mathlib.Core.Path.{◌≡◌, ◌∙◌}
use mathlib.Core.List.{List}
use Prim.Native.Nat.{ℕ}
use Rattle.header_lines.specs.Sweep.{Span}
use Rattle.header_values.specs.Values.{nvars_in, nsuppvars_in}
use Rattle.codes.specs.Faults.{first_fault}
use Rattle.header_checks.specs.Whole.{given_fault, name_count_faults, NameCounts}
use Rattle.codes.specs.Refusals.{number_of}
use Rattle.codes.specs.declared.refusal.Refusal.{Refusal}
use Rattle.codes.proofs.Faults.{last-check}
use Rattle.codes.proofs.Numbered.{refuses-with, passes-on}

module _ (f : List ℕ) (t : List Span) {ordered supp varnames : ℕ} (n : NameCounts f t ordered supp varnames)
    {nvars nsuppvars : ℕ} (v : nvars ≡ nvars_in f t) (w : nsuppvars ≡ nsuppvars_in f t) where
  -- too many `.orderedvarnames` or too few
  pub ordered-wrong : (r : Refusal) → number_of r ≡ given_fault nvars ordered → number_of r ≡ first_fault (name_count_faults f t)
  unfolding name_count_faults
  ordered-wrong r e = refuses-with r _ (rw (v, n.ordered_count) at e)

  module _ (o : 0 ≡ given_fault nvars ordered) where
    -- too many `.suppvarnames` or too few
    pub supp-wrong : (r : Refusal) → number_of r ≡ given_fault nsuppvars supp → number_of r ≡ first_fault (name_count_faults f t)
    unfolding name_count_faults
    supp-wrong r e = refuses-with r _ (rw (w, n.supp_count) at e) ∙ passes-on _ (rw (v, n.ordered_count) at o)

    -- neither: `.varnames` decides
    pub counts-pass : 0 ≡ given_fault nsuppvars supp → {z : ℕ} → z ≡ given_fault nvars varnames → z ≡ first_fault (name_count_faults f t)
    unfolding name_count_faults
    counts-pass d g =
        rw (v, n.varnames_count) at g
        ∙ last-check _
        ∙ passes-on _ (rw (w, n.supp_count) at d)
        ∙ passes-on _ (rw (v, n.ordered_count) at o)
