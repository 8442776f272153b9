-- A header as a whole has no refusal exactly where every rule of document 01 about it holds.
use mathlib.Core.Path.{◌≡◌, refl, sym, ◌∙◌}
use mathlib.Core.Logic.{◌⊎◌, inl, inr, ◌↔◌}
use mathlib.Core.Bool.{true}
use mathlib.Core.List.{List, [], ◌∷◌}
use Prim.Native.Nat.{ℕ, zero, suc, ◌+◌, ◌≤◌, ◌<◌}
use native.Mathlib.Omega.{arith}
use native.Mathlib.Decide.{ℕ_discrete}
use lib.ListN.{length, get_or}
use Rattle.codes.specs.Limits.{Limits}
use Rattle.codes.specs.Faults.{first_fault}
use Rattle.codes.proofs.Faults.{first-none, rest-none, passes, last-check}
use Rattle.codes.proofs.Refusals.{unless_holds, unless-none, within-passes, within_none}
use Rattle.read_text.specs.Text.{Place}
use Rattle.header_lines.specs.Sweep.{Span}
use Rattle.support.proofs.SupportAllowed.{ids-allowed, permids-allowed}
use Rattle.file_roots.proofs.RootEdges.{roots-allowed}
use Rattle.variable_names.specs.Names.{empty_name, LikeNames, chosen_places}
use Rattle.variable_names.proofs.Likeness.{names-like, chosen-count, chosen-entry}
use Rattle.header_checks.specs.Names.{up_from, agree}
use Rattle.header_checks.specs.Whole.{given_fault, number_faults, support_faults, name_count_faults, name_faults, root_faults, whole_fault}
use Rattle.header_checks.specs.WholeRules.{WholeRules}
use Rattle.header_checks.proofs.Refusals.{count-right, count_none, given-missing, given-counts}
use Rattle.header_checks.proofs.Agreeing.{first-missing, second-missing, both-given}
use Rattle.header_checks.proofs.Upward.{length_up}

-- where there is no first refusal each of the checks has none
each_none : (l : List ℕ) → first_fault l ≡ 0 → (i : ℕ) → get_or l i 0 ≡ 0
each_none [] h i = refl
each_none (n ∷ l) h zero = first-none n l h
each_none (n ∷ l) h (suc i) = each_none l (rest-none n l h) i

-- where a check has none, and those after it have none, there is none
none_more : {n : ℕ} (l : List ℕ) → n ≡ 0 → first_fault l ≡ 0 → first_fault (n ∷ l) ≡ 0
none_more l z h = sym (passes l refl z) ∙ h

module _ (want n : ℕ) where
  -- a list that may be missing isn't refused exactly where it is, or has as many entries as there must be
  given-rule : (given_fault want n ≡ 0) ↔ ((n ≡ 0) ⊎ (n ≡ want))
  given-rule = (λ h. from h (ℕ_discrete n 0), to)
    where
      from : given_fault want n ≡ 0 → Dec (n ≡ 0) → (n ≡ 0) ⊎ (n ≡ want)
      from h (yes z) = inl z
      from h (no z) = inr (count_none want n (sym (given-counts want n z) ∙ h))

      to : (n ≡ 0) ⊎ (n ≡ want) → given_fault want n ≡ 0
      to (inl z) = given-missing want n z
      to (inr e) = filled e (ℕ_discrete n 0)
        where
          filled : n ≡ want → Dec (n ≡ 0) → given_fault want n ≡ 0
          filled e (yes z) = given-missing want n z
          filled e (no z) = given-counts want n z ∙ count-right want n e

-- the i-th of the numbers from s on
up-entry : (n s i : ℕ) → i < n → get_or (up_from n s) i 0 ≡ s + i
unfolding up_from
up-entry zero s i h = absurd (omega arith)
up-entry (suc n) s zero h = omega arith
up-entry (suc n) s (suc i) h = up-entry n (s + 1) i (omega arith) ∙ omega arith

-- from 0 on it is i
up_at : (n i : ℕ) → i < n → get_or (up_from n 0) i 0 ≡ i
up_at n i h = up-entry n 0 i h ∙ omega arith

-- Two lists of names, each with its positions for n variables.
module _ (f : List ℕ) (ps : List Place) (is : List ℕ) (qs : List Place) (js : List ℕ) (n : ℕ) (a : length is ≡ n) (b : length js ≡ n) where
  -- where both are given, the names of each variable are alike
  abbrev AlikeWhereGiven : Type 0
  AlikeWhereGiven = 1 ≤ length ps → 1 ≤ length qs
      → (i : ℕ) → i < n → LikeNames f (get_or ps (get_or is i 0) empty_name) (get_or qs (get_or js i 0) empty_name)

  -- where they agree they are so
  agree-like : agree f ps is qs js ≡ true → AlikeWhereGiven
  agree-like h p q i k =
      let s = both-given f ps is qs js refl (λ z. omega arith) refl (λ z. omega arith) refl ∙ h in
      let ka : i < length is = omega arith in
      let kb : i < length js = omega arith in
      rw (chosen-entry is ps i ka, chosen-entry js qs i kb)
      at ((names-like f (chosen_places is ps) (chosen_places js qs)).0 s i (omega (arith, chosen-count is ps)) (omega (arith, chosen-count js qs)))

  -- where they are so they agree
  like-agree : AlikeWhereGiven → agree f ps is qs js ≡ true
  like-agree A = go (ℕ_discrete (length ps) 0) (ℕ_discrete (length qs) 0)
    where
      entries : 1 ≤ length ps → 1 ≤ length qs → (i : ℕ) → i < length (chosen_places is ps) → i < length (chosen_places js qs)
          → LikeNames f (get_or (chosen_places is ps) i empty_name) (get_or (chosen_places js qs) i empty_name)
      entries p q i h k =
          let ka : i < length is = omega (arith, chosen-count is ps) in
          let kb : i < length js = omega (arith, chosen-count js qs) in
          rw (chosen-entry is ps i ka, chosen-entry js qs i kb) (A p q i (omega arith))

      go : Dec (length ps ≡ 0) → Dec (length qs ≡ 0) → agree f ps is qs js ≡ true
      go (yes z) d = sym (first-missing f ps is qs js refl z)
      go (no z) (yes y) = sym (second-missing f ps is qs js refl z refl y)
      go (no z) (no y) =
          sym (both-given f ps is qs js refl z refl y refl)
          ∙ (names-like f (chosen_places is ps) (chosen_places js qs)).1 (entries (omega arith) (omega arith))

-- Two lists of names, the second of which has its names at 0, 1, ..
module _ (f : List ℕ) (ps : List Place) (is : List ℕ) (qs : List Place) (n : ℕ) (a : length is ≡ n) where
  -- where they agree the names of each variable are alike
  agree-supp : agree f ps is qs (up_from n 0) ≡ true
      → 1 ≤ length ps → 1 ≤ length qs → (i : ℕ) → i < n → LikeNames f (get_or ps (get_or is i 0) empty_name) (get_or qs i empty_name)
  agree-supp h p q i k = rw (up_at n i k) at (agree-like f ps is qs (up_from n 0) n a (length_up n 0) h p q i k)

  -- where they are alike they agree
  supp-agree : (1 ≤ length ps → 1 ≤ length qs → (i : ℕ) → i < n → LikeNames f (get_or ps (get_or is i 0) empty_name) (get_or qs i empty_name))
      → agree f ps is qs (up_from n 0) ≡ true
  supp-agree A = like-agree f ps is qs (up_from n 0) n a (length_up n 0) (λ p q i k. rw (up_at n i k) (A p q i k))

module _ (m : Limits) (f : List ℕ) (t : List Span) where
  -- where there is no refusal each rule holds
  no-fault-rules : whole_fault m f t ≡ 0 → WholeRules m f t
  unfolding whole_fault number_faults support_faults name_count_faults name_faults root_faults
  no-fault-rules h =
      let check = each_none _ h in
      let ids_counted = count_none _ _ (check 3) in
      let permids_counted = count_none _ _ (check 4) in
      record {
        few_vars = within_none _ _ 18 (check 0);
        few_nodes = within_none _ _ 18 (check 1);
        few_support = within_none _ _ 19 (check 2);
        ids_counted = ids_counted;
        permids_counted = permids_counted;
        auxids_counted = (given-rule _ _).0 (check 5);
        ids = (ids-allowed _ _).0 (unless-none _ 21 (check 6));
        permids = (permids-allowed _ _).0 (unless-none _ 22 (check 7));
        ordered_counted = (given-rule _ _).0 (check 8);
        supp_counted = (given-rule _ _).0 (check 9);
        varnames_counted = (given-rule _ _).0 (check 10);
        varnames_ordered = agree-like f _ _ _ _ _ ids_counted permids_counted (unless-none _ 23 (check 11));
        varnames_supp = agree-supp f _ _ _ _ ids_counted (unless-none _ 23 (check 12));
        ordered_supp = agree-supp f _ _ _ _ permids_counted (unless-none _ 23 (check 13));
        roots_counted = count_none _ _ (check 14);
        roots = (roots-allowed _ _).0 (check 15);
        rootnames_counted = (given-rule _ _).0 (check 16);
      }

  -- where each rule holds there is no refusal
  rules-no-fault : WholeRules m f t → whole_fault m f t ≡ 0
  unfolding whole_fault number_faults support_faults name_count_faults name_faults root_faults
  rules-no-fault R =
      none_more _ (within-passes _ _ 19 R.few_vars)
      (none_more _ (within-passes _ _ 19 R.few_nodes)
      (none_more _ (within-passes _ _ 20 R.few_support)
      (none_more _ (count-right _ _ R.ids_counted)
      (none_more _ (count-right _ _ R.permids_counted)
      (none_more _ ((given-rule _ _).1 R.auxids_counted)
      (none_more _ (unless_holds 22 ((ids-allowed _ _).1 R.ids))
      (none_more _ (unless_holds 23 ((permids-allowed _ _).1 R.permids))
      (none_more _ ((given-rule _ _).1 R.ordered_counted)
      (none_more _ ((given-rule _ _).1 R.supp_counted)
      (none_more _ ((given-rule _ _).1 R.varnames_counted)
      (none_more _ (unless_holds 24 (like-agree f _ _ _ _ _ R.ids_counted R.permids_counted R.varnames_ordered))
      (none_more _ (unless_holds 24 (supp-agree f _ _ _ _ R.ids_counted R.varnames_supp))
      (none_more _ (unless_holds 24 (supp-agree f _ _ _ _ R.permids_counted R.ordered_supp))
      (none_more _ (count-right _ _ R.roots_counted)
      (none_more _ ((roots-allowed _ _).1 R.roots)
      (sym (last-check _) ∙ (given-rule _ _).1 R.rootnames_counted))))))))))))))))

  -- a header as a whole has no refusal exactly where the rules hold
  pub whole-rules : (whole_fault m f t ≡ 0) ↔ WholeRules m f t
  whole-rules = (no-fault-rules, rules-no-fault)
