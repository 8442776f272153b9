-- The header of an export as a whole: no check refuses it, and the order and the names of its variables come back.
use mathlib.Core.Path.{◌≡◌, refl, sym}
use mathlib.Core.Bool.{or-true}
use mathlib.Core.List.{List, [], map}
use mathlib.Core.Logic.{◌⊎◌, inl, inr}
use Prim.Native.Nat.{ℕ, ◌≤◌}
use lib.Dec.{eqb}
use lib.ListN.{length, get_or}
use borrow.Author.Tests.{eq-eqb}
use Rattle.codes.specs.Limits.{Limits}
use Rattle.codes.specs.declared.DDDMPVersion.TheVariants.{V3_0}
use Rattle.read_lines.specs.Each.{Each, none, each}
use Rattle.read_text.specs.Text.{place}
use Rattle.header_lines.specs.Sweep.{Span}
use Rattle.header_keys.specs.declared.Key.TheVariants.{Ids, Permids}
use Rattle.seats.specs.Seats.{seat_of}
use Rattle.support.specs.Support.{support_order}
use Rattle.header_values.specs.Values.{nnodes_in, nvars_in, nsuppvars_in, u32s_in}
use Rattle.header_checks.specs.Names.{varnames_in, orderedvarnames_in, suppvarnames_in, variable_names_in}
use Rattle.codes.specs.Faults.{first_fault}
use Rattle.header_checks.specs.Whole.{given_fault, number_faults, support_faults, name_count_faults, name_faults, root_faults, whole_fault}
use Rattle.codes.proofs.Refusals.{unless_holds}
use Rattle.header_checks.proofs.Refusals.{count-right, given-missing}
use Rattle.header_checks.proofs.Numbered.{numbers-pass}
use Rattle.header_checks.proofs.Checked.{names-passed}
use Rattle.export_names.specs.Names.{name_at}
use Rattle.heading.specs.Heading.{Heading}
use Rattle.reading_header.specs.HeadWords.{ids_of}
use Rattle.reading_header.specs.HeaderBack.{Fit, variable_of_level}
use Rattle.reading_header.specs.ValuesBack.{ValuesBack}
use Rattle.reading_header.proofs.SupportBack.{order-back, supported}
use Rattle.reading_header.proofs.AgreementBack.{names-count}
use Rattle.reading_header.proofs.GivenNames.{Given, given_back, varnames-agree, supp-varnames-agree, supp-ordered-agree}
use Rattle.reading_header.proofs.GivenNames.{ordered_counted, supp_counted, varnames_counted, supp-name-back, all-names-back}
use Rattle.reading_header.proofs.RootsChecked.{roots-pass}

-- checks none of which refuses
all_pass : {l : List ℕ} → Each (λ n. n ≡ 0) l → first_fault l ≡ 0
unfolding first_fault
all_pass none = refl
all_pass (each e k) = rw e (all_pass k)

-- no entry, or as many as there must be
given-right : (want n : ℕ) → (n ≡ 0) ⊎ (n ≡ want) → given_fault want n ≡ 0
given-right want n (inl e) = given-missing want n e
given-right want n (inr e) = rw (eq-eqb n want e, or-true (eqb n 0))

module _ {h : Heading} {f : List ℕ} {t : List Span} (fit : Fit h) (v : ValuesBack h f t) where
  given : Given h f (varnames_in f t) (orderedvarnames_in f t) (suppvarnames_in f t)
  given = given_back h f _ _ _ fit.names_counted v.varnames v.orderedvarnames v.suppvarnames

  -- each group of checks
  numbers : (m : Limits) → h.nnodes ≤ m.nodes → first_fault (number_faults m (nvars_in f t) (nnodes_in f t) (nsuppvars_in f t)) ≡ 0
  numbers m few =
      rw (v.nvars, v.nnodes, v.nsuppvars)
      (sym (numbers-pass m (length h.order) h.nnodes (length h.support) fit.few_variables few
      (supported fit).few))

  support : first_fault (support_faults f t) ≡ 0
  unfolding support_faults
  support =
      let s = supported fit in
      rw (v.nsuppvars, v.nvars, v.ids, v.permids, v.auxids)
      (all_pass
      (each (count-right _ _ s.ids_counted)
      (each (count-right _ _ s.permids_counted)
      (each refl
      (each (unless_holds 22 s.ids)
      (each (unless_holds 23 s.permids) none))))))

  name-counts : first_fault (name_count_faults f t) ≡ 0
  unfolding name_count_faults
  name-counts =
      rw (v.nvars, v.nsuppvars)
      (all_pass
      (each (given-right _ _ (ordered_counted fit given))
      (each (given-right _ _ (supp_counted fit given))
      (each (given-right _ _ (varnames_counted fit given)) none))))

  names : first_fault (name_faults f t) ≡ 0
  unfolding name_faults
  names =
      rw (v.nsuppvars, v.ids, v.permids)
      (all_pass
      (each (unless_holds 24 (varnames-agree fit given))
      (each (unless_holds 24 (supp-varnames-agree fit given))
      (each (unless_holds 24 (supp-ordered-agree fit given)) none))))

  roots : first_fault (root_faults f t) ≡ 0
  unfolding root_faults
  roots =
      rw (v.nroots, v.roots, v.nnodes, names-count v.rootnames)
      (all_pass
      (each (count-right (length h.rootids) (length h.rootids) refl)
      (each (roots-pass h.nnodes h.rootids fit.root_some fit.root_low)
      (each (given-right _ _ fit.rootnames_counted) none))))

  -- No check refuses,
  pub whole_back : (m : Limits) → h.nnodes ≤ m.nodes → whole_fault m f t ≡ 0
  whole_back m few = sym (names-passed m f t (numbers m few) (sym support) refl (sym name-counts) refl (sym names) refl (sym roots))

  -- the support order is the export's,
  pub order_read : support_order (nvars_in f t) (u32s_in f t Ids) (u32s_in f t Permids) ≡ map (variable_of_level h.order) h.support
  order_read = rw (v.nvars, v.ids, v.permids) (order-back (length h.order) h.order fit.order h.support fit.support)

  -- and so are the names: of the support variables, and in version 3.0 of all.
  pub supp-name-read : (i : ℕ) → 1 ≤ seat_of i (ids_of h) → name_at f (get_or (variable_names_in f t) i (place 0 0)) ≡ get_or h.names i []
  unfolding variable_names_in
  supp-name-read i s = rw (v.nvars, v.ids, v.permids) (supp-name-back fit i s given)

  pub all-names-read : h.version ≡ V3_0 → map (name_at f) (variable_names_in f t) ≡ h.names
  unfolding variable_names_in
  all-names-read e = rw (v.nvars, v.ids, v.permids) (all-names-back fit e given)
