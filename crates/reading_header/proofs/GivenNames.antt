-- The three lists of names in an export's header: they agree, are as long as they must be, and tell the names of the variables.
use mathlib.Core.Path.{◌≡◌, refl, sym, ap, ◌∙◌}
use mathlib.Core.Bool.{Bool, true, false, cond}
use mathlib.Core.List.{List, [], ◌∷◌, map}
use mathlib.Core.Logic.{◌⊎◌, inl, inr}
use Prim.Native.Nat.{ℕ, ◌≤◌}
use native.Mathlib.Omega.{arith}
use lib.ListN.{length, get_or, get_or-eq_default}
use borrow.Author.Tests.{eqb-true, eqb-false}
use Rattle.codes.specs.declared.DDDMPVersion.{DDDMPVersion}
use Rattle.codes.specs.declared.DDDMPVersion.TheVariants.{V2_0, V3_0}
use Rattle.read_text.specs.Text.{Place}
use Rattle.seats.specs.Seats.{seat_of}
use Rattle.variable_names.specs.Names.{empty_name, variable_names}
use Rattle.header_checks.specs.Names.{up_from, agree}
use Rattle.header_checks.proofs.Agreeing.{first-missing}
use Rattle.export_names.specs.Names.{name_at}
use Rattle.heading.specs.Heading.{Heading, chosen_names}
use Rattle.reading_header.specs.HeadWords.{ids_of, levels_of, all_names, supp_names, ordered_names, named, varname_words, suppvarname_words, orderedvarname_words}
use Rattle.reading_header.specs.HeaderBack.{Fit, AllOrNone}
use Rattle.reading_header.specs.ValuesBack.{Named}
use Rattle.reading_header.proofs.HeadBounds.{supp-names-counted, ordered-names-counted}
use Rattle.reading_header.proofs.SupportBack.{supported}
use Rattle.reading_header.proofs.AgreementBack.{name-at, names-count, names-agree}
use Rattle.reading_header.proofs.VariablesBack.{permids-names, names-in-order, id-low, ordered-name, none-given}

-- All lists are given, `.varnames` in version 3.0 alone, or none is.
module _ (h : Heading) (f : List ℕ) (vp op sp : List Place) where
  pub record AllGiven : Type 0 where
    pub counted : length h.names ≡ length h.order
    pub varnames : Named f vp (all_names h.version h.names)
    pub orderedvarnames : Named f op (ordered_names h)
    pub suppvarnames : Named f sp (supp_names h)

  pub record NoneGiven : Type 0 where
    pub unnamed : length h.names ≡ 0
    pub varnames : length vp ≡ 0
    pub orderedvarnames : length op ≡ 0
    pub suppvarnames : length sp ≡ 0

  abbrev pub Given : Type 0
  Given = AllGiven ⊎ NoneGiven

  pub given_back : AllOrNone h.names (length h.order) → Named f vp (varname_words h) → Named f op (orderedvarname_words h)
      → Named f sp (suppvarname_words h) → Given
  unfolding varname_words orderedvarname_words suppvarname_words
  given_back = by (named h) refl
    where
      by : (b : Bool) → named h ≡ b → AllOrNone h.names (length h.order)
          → Named f vp (cond b (all_names h.version h.names) []) → Named f op (cond b (ordered_names h) [])
          → Named f sp (cond b (supp_names h) []) → Given
      by true e a v o s = inl (record { counted = eqb-true _ _ e; varnames = v; orderedvarnames = o; suppvarnames = s })
      by false e (inl z) v o s =
          inr (record { unnamed = z; varnames = names-count v; orderedvarnames = names-count o; suppvarnames = names-count s })
      by false e (inr c) v o s = absurd (eqb-false _ _ e c)

module _ {h : Heading} (fit : Fit h) where
  -- the names of the support variables: by their permids, and one by one
  by-permids : chosen_names (levels_of h) (ordered_names h) ≡ supp_names h
  by-permids = permids-names (length h.order) h.order fit.order h.support h.names

  abbrev positions : List ℕ
  positions = up_from (length h.support) 0

  one_by_one : chosen_names positions (supp_names h) ≡ supp_names h
  one_by_one = ap (λ k. chosen_names (up_from k 0) (supp_names h)) (sym (supp-names-counted fit)) ∙ names-in-order (supp_names h)

  -- `.varnames` agrees with a list that has the names of the support variables at some positions: it has them too, or isn't given.
  varnames-by : {f : List ℕ} {vp qs : List Place} {names : List (List ℕ)} (version : DDDMPVersion)
      → Named f vp (all_names version h.names) → Named f qs names → (is : List ℕ) → chosen_names is names ≡ supp_names h
      → agree f vp (ids_of h) qs is ≡ true
  varnames-by {f} {vp} {qs} V2_0 v q is e = sym (first-missing f vp (ids_of h) qs is refl (names-count v))
  varnames-by V3_0 v q is e = names-agree v q (ids_of h) is (sym e)

  module _ {f : List ℕ} {vp op sp : List Place} where
    -- '24 for a support variable, `.varnames` and `.orderedvarnames`, or either and `.suppvarnames`, give unlike names': they don't.
    pub varnames-agree : Given h f vp op sp → agree f vp (ids_of h) op (levels_of h) ≡ true
    varnames-agree (inl a) = varnames-by h.version a.varnames a.orderedvarnames (levels_of h) by-permids
    varnames-agree (inr z) = sym (first-missing f vp (ids_of h) op (levels_of h) refl z.varnames)

    pub supp-varnames-agree : Given h f vp op sp → agree f vp (ids_of h) sp positions ≡ true
    supp-varnames-agree (inl a) = varnames-by h.version a.varnames a.suppvarnames positions one_by_one
    supp-varnames-agree (inr z) = sym (first-missing f vp (ids_of h) sp positions refl z.varnames)

    pub supp-ordered-agree : Given h f vp op sp → agree f op (levels_of h) sp positions ≡ true
    supp-ordered-agree (inl a) = names-agree a.orderedvarnames a.suppvarnames (levels_of h) positions (by-permids ∙ sym one_by_one)
    supp-ordered-agree (inr z) = sym (first-missing f op (levels_of h) sp positions refl z.orderedvarnames)

    -- '21 for nonempty `.orderedvarnames`, `.suppvarnames`, `.varnames`': each has no entry, or as many as it must.
    pub ordered_counted : Given h f vp op sp → (length op ≡ 0) ⊎ (length op ≡ length h.order)
    ordered_counted (inl a) = inr (names-count a.orderedvarnames ∙ ordered-names-counted fit)
    ordered_counted (inr z) = inl z.orderedvarnames

    pub supp_counted : Given h f vp op sp → (length sp ≡ 0) ⊎ (length sp ≡ length h.support)
    supp_counted (inl a) = inr (names-count a.suppvarnames ∙ supp-names-counted fit)
    supp_counted (inr z) = inl z.suppvarnames

    pub varnames_counted : Given h f vp op sp → (length vp ≡ 0) ⊎ (length vp ≡ length h.order)
    varnames_counted (inl a) = by h.version a.varnames
      where
        by : (version : DDDMPVersion) → Named f vp (all_names version h.names) → (length vp ≡ 0) ⊎ (length vp ≡ length h.order)
        by V2_0 v = inl (names-count v)
        by V3_0 v = inr (names-count v ∙ a.counted)
    varnames_counted (inr z) = inl z.varnames

  -- The names of the variables, as a reader tells them by the three lists.
  abbrev read : List Place → List Place → List Place → List Place
  read vp op sp = variable_names (length h.order) (ids_of h) (levels_of h) vp op sp

  none_read : {f : List ℕ} {vp op sp : List Place} → NoneGiven h f vp op sp → read vp op sp ≡ []
  none_read z = none-given (length h.order) (ids_of h) (levels_of h) _ _ _ z.varnames z.orderedvarnames z.suppvarnames

  -- Each support variable has its own,
  module _ (v : ℕ) (seated : 1 ≤ seat_of v (ids_of h)) {f : List ℕ} where
    name-read : (vp op sp : List Place) (version : DDDMPVersion) → Named f vp (all_names version h.names) → Named f op (ordered_names h)
        → name_at f (get_or (read vp op sp) v empty_name) ≡ get_or h.names v []
    unfolding variable_names
    name-read (p ∷ vp) op sp V2_0 a o = absurd (omega (arith, names-count a))
    name-read (p ∷ vp) op sp V3_0 a o = name-at a v
    name-read [] (p ∷ op) sp version a o = ordered-name (length h.order) h.order fit.order h.support v seated h.names o
    name-read [] [] sp version a o =
        absurd (omega (arith, names-count o, ordered-names-counted fit, id-low (length h.order) h.order fit.order h.support v seated))

    pub supp-name-back : {vp op sp : List Place} → Given h f vp op sp → name_at f (get_or (read vp op sp) v empty_name) ≡ get_or h.names v []
    supp-name-back (inl a) = name-read _ _ _ h.version a.varnames a.orderedvarnames
    supp-name-back (inr z) =
        let e : length h.names ≤ v = omega (arith, z.unnamed) in rw (none_read z) (sym (get_or-eq_default h.names [] e))

  -- and in version 3.0 each variable.
  module _ {f : List ℕ} where
    names-read : (vp op sp : List Place) → Named f vp h.names → length h.names ≡ length h.order → Named f op (ordered_names h)
        → Named f sp (supp_names h) → map (name_at f) (read vp op sp) ≡ h.names
    unfolding variable_names
    names-read (p ∷ vp) op sp a c o s = a.there
    names-read [] op sp a c o s =
        let z : length h.order ≡ 0 = sym c ∙ sym (names-count a) in
        let few = (supported fit).few in
        let k : length op ≡ 0 = omega (arith, names-count o, ordered-names-counted fit) in
        let l : length sp ≡ 0 = omega (arith, names-count s, supp-names-counted fit) in
        rw (none-given (length h.order) (ids_of h) (levels_of h) [] op sp refl k l) a.there

    pub all-names-back : {vp op sp : List Place} → h.version ≡ V3_0 → Given h f vp op sp → map (name_at f) (read vp op sp) ≡ h.names
    all-names-back e (inl a) = names-read _ _ _ (rw e at a.varnames) a.counted a.orderedvarnames a.suppvarnames
    all-names-back e (inr z) = rw (none_read z) (no_names h.names z.unnamed)
      where
        no_names : (l : List (List ℕ)) → length l ≡ 0 → [] ≡ l
        no_names [] k = refl
        no_names (w ∷ l) k = absurd (omega arith)
