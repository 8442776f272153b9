-- Laws of the checks of the support variables.
use mathlib.Core.Path.{◌≡◌, refl, sym, ◌∙◌}
use mathlib.Core.Bool.{Bool, true, false, not}
use mathlib.Core.List.{List, [], ◌∷◌}
use Prim.Native.Nat.{ℕ, ◌≤◌}
use native.Mathlib.Omega.{arith}
use lib.ListN.{length, take}
use borrow.Author.Tests.{not-true, not-false}
use Rattle.header_lines.specs.Sweep.{Span}
use Rattle.header_keys.specs.declared.Key.{Key}
use Rattle.header_keys.specs.declared.Key.TheVariants.{Ids, Permids, Auxids}
use Rattle.support.specs.Support.{ids_fit, permids_fit}
use Rattle.codes.specs.Limits.{var_limit}
use Rattle.header_values.specs.Values.{pad, nvars_in, nsuppvars_in, u32s_in}
use Rattle.header_values.proofs.Counted.{u32s-most}
use Rattle.header_values.proofs.Fronts.{front_fits, front-is, front_long}
use Rattle.codes.specs.Faults.{first_fault, unless}
use Rattle.codes.specs.Refusals.{number_of}
use Rattle.codes.specs.declared.refusal.Refusal.{Refusal}
use Rattle.header_checks.specs.Whole.{count_fault, given_fault, support_faults, IdsListed}
use Rattle.codes.proofs.Faults.{first-none, rest-none, refuses, passes, last-check}
use Rattle.codes.proofs.Numbered.{refuses-with, passes-on}
use Rattle.codes.proofs.Refusals.{unless_holds, unless-fails}
use Rattle.header_checks.proofs.Refusals.{count_none}

-- the counts are right, so that the ids and the permids decide
abbrev pub CountsPass : List ℕ → List Span → Type 0
CountsPass f t =
    first_fault
    (unless (ids_fit (nvars_in f t) (u32s_in f t Ids)) 22
    ∷ unless (permids_fit (nvars_in f t) (u32s_in f t Permids)) 23
    ∷ [])
    ≡ first_fault (support_faults f t)

-- numbers of a header's list were read into a list that is long enough
module _ (f : List ℕ) (t : List Span) (k : Key) {n m : ℕ} {dst : List ℕ} (long : var_limit ≤ m) (e : n ≡ length (u32s_in f t k))
    (l : dst ≡ pad m (u32s_in f t k)) where
  -- they have room
  in-room : length (u32s_in f t k) ≤ m
  in-room = omega (arith, u32s-most f t k, long)

  -- the list reaches as far as they
  pub read_fits : n ≤ length dst
  read_fits = front_fits m (u32s_in f t k) in-room e l

  -- its front is they
  pub read_is : take n dst ≡ u32s_in f t k
  read_is = front-is m (u32s_in f t k) in-room e l

  -- and has as many entries
  pub read-long : n ≡ length (take n dst)
  read-long = front_long m (u32s_in f t k) in-room e l

module _ (f : List ℕ) (t : List Span) where
  -- how many support variables, ids and permids there are
  module _ {want : ℕ} (w : want ≡ nsuppvars_in f t) {ids permids : List ℕ} (l : IdsListed f t ids permids) where
    -- too many ids or too few
    pub ids-wrong : (r : Refusal) → number_of r ≡ count_fault want (length ids) → number_of r ≡ first_fault (support_faults f t)
    unfolding support_faults
    ids-wrong r e = refuses-with r _ (rw (w, l.ids_are) at e)

    module _ (n : 0 ≡ count_fault want (length ids)) where
      -- too many permids or too few
      pub permids-wrong : (r : Refusal) → number_of r ≡ count_fault want (length permids) → number_of r ≡ first_fault (support_faults f t)
      unfolding support_faults
      permids-wrong r e = refuses-with r _ (rw (w, l.permids_are) at e) ∙ passes-on _ (rw (w, l.ids_are) at n)

      -- as many as there must be: how many auxids there are
      module _ (m : 0 ≡ count_fault want (length permids)) {a : ℕ} (u : a ≡ length (u32s_in f t Auxids)) where
        -- too many or too few
        pub auxids-wrong : (r : Refusal) → number_of r ≡ given_fault want a → number_of r ≡ first_fault (support_faults f t)
        unfolding support_faults
        auxids-wrong r e =
            refuses-with r _ (rw (w, u) at e) ∙ passes-on _ (rw (w, l.permids_are) at m) ∙ passes-on _ (rw (w, l.ids_are) at n)

        -- as many as there must be
        pub counts-pass : 0 ≡ given_fault want a → CountsPass f t
        unfolding support_faults
        counts-pass e = passes-on _ (rw (w, u) at e) ∙ passes-on _ (rw (w, l.permids_are) at m) ∙ passes-on _ (rw (w, l.ids_are) at n)

  -- where no support variable has a fault, there are as many ids and permids as support variables
  module _ (h : first_fault (support_faults f t) ≡ 0) where
    pub ids-number : length (u32s_in f t Ids) ≡ nsuppvars_in f t
    unfolding support_faults
    ids-number = count_none _ _ (first-none _ _ h)

    pub permids-number : length (u32s_in f t Permids) ≡ nsuppvars_in f t
    unfolding support_faults
    permids-number = count_none _ _ (first-none _ _ (rest-none _ _ h))

  -- where the counts are right: the answer about the ids
  module _ (pass : CountsPass f t) {ids permids : List ℕ} (l : IdsListed f t ids permids) {nvars : ℕ} (v : nvars ≡ nvars_in f t)
      {a : Bool} (e : a ≡ ids_fit nvars ids) where
    -- it is about the header's ids
    ids-answer : ids_fit (nvars_in f t) (u32s_in f t Ids) ≡ a
    ids-answer = sym (rw (v, l.ids_are) at e)

    -- the ids don't fit
    pub ids-unfit : not a ≡ true → 22 ≡ first_fault (support_faults f t)
    ids-unfit h = refuses _ (sym (unless-fails 22 (ids-answer ∙ not-true a h))) (λ z. omega arith) ∙ pass

    -- they do: the answer about the permids
    module _ (h : not a ≡ false) {b : Bool} (d : b ≡ permids_fit nvars permids) where
      -- it is about the header's permids
      permids-answer : permids_fit (nvars_in f t) (u32s_in f t Permids) ≡ b
      permids-answer = sym (rw (v, l.permids_are) at d)

      -- the permids don't fit
      pub permids-unfit : not b ≡ true → 23 ≡ first_fault (support_faults f t)
      permids-unfit k =
          sym (unless-fails 23 (permids-answer ∙ not-true b k))
          ∙ last-check _
          ∙ passes _ refl (unless_holds 22 (ids-answer ∙ not-false a h))
          ∙ pass

      -- they do
      pub support-passes : not b ≡ false → 0 ≡ first_fault (support_faults f t)
      support-passes k =
          sym (unless_holds 23 (permids-answer ∙ not-false b k))
          ∙ last-check _
          ∙ passes _ refl (unless_holds 22 (ids-answer ∙ not-false a h))
          ∙ pass
