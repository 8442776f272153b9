-- Laws of the checks that the lists of names agree about the support variables.
use mathlib.Core.Path.{◌≡◌, refl, sym, ap, ◌∙◌}
use mathlib.Core.Bool.{Bool, true, false, true≢false}
use mathlib.Core.Logic.{◌⊎◌, inl, inr}
use mathlib.Core.List.{List, [], ◌∷◌, ◌++◌, map, append_assoc}
use Prim.Native.Nat.{ℕ, zero, suc, ◌≤◌}
use native.Mathlib.Omega.{arith}
use lib.ListN.{length, take, length-map}
use lib.Dec.{eqb}
use borrow.Author.Tests.{eq-eqb, ne_eqb}
use Rattle.codes.specs.Limits.{var_limit}
use Rattle.read_text.specs.Text.{Place, start_of, len_of}
use Rattle.header_lines.specs.Sweep.{Span}
use Rattle.header_keys.specs.declared.Key.{Key}
use Rattle.header_keys.specs.declared.Key.TheVariants.{Varnames, Orderedvarnames, Suppvarnames}
use Rattle.variable_names.specs.Names.{places, same_names, chosen_places}
use Rattle.variable_names.proofs.Placed.{places-parts}
use Rattle.header_values.specs.Values.{names_in}
use Rattle.header_values.proofs.Counted.{names-most}
use Rattle.header_checks.specs.Names.{up_from, agree, varnames_in, orderedvarnames_in, suppvarnames_in, varnames_agree, supp_by_varnames, supp_by_ordered}
use Rattle.codes.specs.Faults.{first_fault, unless}
use Rattle.header_checks.specs.Whole.{name_count_faults, name_faults, NamesHeld, NameCounts, IdsRead}
use Rattle.codes.proofs.Faults.{last-check, front-refuses, front-passes}
use Rattle.codes.proofs.Numbered.{passes-on}
use Rattle.codes.proofs.Refusals.{unless_holds, unless-fails}
use Rattle.header_checks.proofs.Rooted.{front-reach, front-count}
use Rattle.header_checks.proofs.Checked.{first_then}

-- a list has no more names than a list that is long enough has entries
pub names-room : (f : List ℕ) (t : List Span) (k : Key) (l : List ℕ) → var_limit ≤ length l → length (names_in var_limit f t k) ≤ length l
names-room f t k l h = omega (arith, names-most f t var_limit k, h)

-- the names of a header's list, n of them, are the fronts of two lists
module _ (f : List ℕ) (t : List Span) (k : Key) {n : ℕ} (starts lens : List ℕ) (e : n ≡ length (names_in var_limit f t k))
    (a : take n starts ≡ map start_of (names_in var_limit f t k)) (b : take n lens ≡ map len_of (names_in var_limit f t k)) where
  -- as many parts as names
  parts-count : (part : Place → ℕ) → n ≡ length (map part (names_in var_limit f t k))
  parts-count part = rw length-map e

  -- the list of starts reaches as far as the names
  pub starts_fit : n ≤ length starts
  starts_fit = front-reach starts (parts-count start_of) a

  -- the list of lengths does
  pub lens-fit : n ≤ length lens
  lens-fit = front-reach lens (parts-count len_of) b

  -- the front of the starts has as many entries
  pub starts_long : n ≡ length (take n starts)
  starts_long = front-count starts (parts-count start_of) a

  -- the front of the lengths has
  pub lens_long : n ≡ length (take n lens)
  lens_long = front-count lens (parts-count len_of) b

  -- together they are the names
  pub names-held : NamesHeld f t k (take n starts) (take n lens)
  names-held = record {
    even = sym lens_long ∙ starts_long;
    count = sym starts_long ∙ e;
    names_are = rw (a, b) (places-parts (names_in var_limit f t k));
  }

-- there are as many names as starts
pub places-long : (ss ns : List ℕ) → length ns ≡ length ss → length ss ≡ length (places ss ns)
unfolding places
places-long [] ns e = refl
places-long (s ∷ ss) [] e = absurd (omega arith)
places-long (s ∷ ss) (n ∷ ns) e = ap suc (places-long ss ns (omega arith))

-- a list that isn't empty has a name
pub not_empty : (n : ℕ) → false ≡ eqb n 0 → n ≡ 0 → ⊥
not_empty n e z = true≢false (sym (eq-eqb n 0 z) ∙ sym e)

module _ (f : List ℕ) (ps : List Place) (is : List ℕ) (qs : List Place) (js : List ℕ) where
  module _ {n : ℕ} (p : n ≡ length ps) where
    -- the first list isn't given
    pub first-missing : n ≡ 0 → true ≡ agree f ps is qs js
    unfolding agree
    first-missing h = rw (eq-eqb (length ps) 0 (sym p ∙ h))

    module _ (h : n ≡ 0 → ⊥) {m : ℕ} (q : m ≡ length qs) where
      -- the second isn't
      pub second-missing : m ≡ 0 → true ≡ agree f ps is qs js
      unfolding agree
      second-missing k = rw (ne_eqb (length ps) 0 (λ z. h (p ∙ z)), eq-eqb (length qs) 0 (sym q ∙ k))

      -- both are: their names decide
      pub both-given : (m ≡ 0 → ⊥) → {r : Bool} → r ≡ same_names f (chosen_places is ps) (chosen_places js qs) → r ≡ agree f ps is qs js
      unfolding agree
      both-given k e = rw (ne_eqb (length ps) 0 (λ z. h (p ∙ z)), ne_eqb (length qs) 0 (λ z. k (q ∙ z))) e

-- the names of lists that hold them, at some positions
agree-held : (f : List ℕ) {ps ps' qs qs' : List Place} (is js : List ℕ) {r : Bool} → ps ≡ ps' → qs ≡ qs'
    → r ≡ agree f ps is qs js → r ≡ agree f ps' is qs' js
agree-held f is js a b e = rw (a, b) at e

-- the answer about `.orderedvarnames` and `.suppvarnames`, which are held
module _ (f : List ℕ) (t : List Span) {names lens names2 lens2 : List ℕ} (o : NamesHeld f t Orderedvarnames names lens)
    (s : NamesHeld f t Suppvarnames names2 lens2) (permids : List ℕ) where
  abbrev supp_like : Bool
  supp_like = agree f (orderedvarnames_in f t) permids (suppvarnames_in f t) (up_from (length permids) 0)

  -- as many names were counted
  pub held-counts : {v : ℕ} → v ≡ length (varnames_in f t) → NameCounts f t (length names) (length names2) v
  held-counts e = record { ordered_count = o.count; supp_count = s.count; varnames_count = e }

  -- a list has too many names or too few
  pub counts-refused : {x : ℕ} → x ≡ first_fault (name_count_faults f t) → (x ≡ 0 → ⊥)
      → x ≡ first_fault (name_count_faults f t ++ (unless supp_like 24 ∷ []))
  counts-refused e h = front-refuses _ _ e h

  -- none has: the comparison decides
  module _ {x : ℕ} (e : x ≡ first_fault (name_count_faults f t)) (h : x ≡ 0) {r : Bool}
      (c : r ≡ agree f (places names lens) permids (places names2 lens2) (up_from (length permids) 0)) where
    -- it is about the file's names
    supp-answer : supp_like ≡ r
    supp-answer = sym (agree-held f permids _ o.names_are s.names_are c)

    -- they agree
    pub supp-like : r ≡ true → 0 ≡ first_fault (name_count_faults f t ++ (unless supp_like 24 ∷ []))
    supp-like k = sym (unless_holds 24 (supp-answer ∙ k)) ∙ last-check _ ∙ front-passes _ _ e h

    -- they don't
    pub supp-unlike : r ≡ false → 24 ≡ first_fault (name_count_faults f t ++ (unless supp_like 24 ∷ []))
    supp-unlike k = sym (unless-fails 24 (supp-answer ∙ k)) ∙ last-check _ ∙ front-passes _ _ e h

-- two answers about names: both are yes,
pub both-like : {a b : Bool} → a ≡ true → b ≡ true → 0 ≡ first_fault (unless a 24 ∷ unless b 24 ∷ [])
both-like h k = sym (unless_holds 24 k) ∙ last-check _ ∙ passes-on _ (sym (unless_holds 24 h))

-- or one is no
pub one-unlike : {a b : Bool} → ((a ≡ true) × (b ≡ false)) ⊎ (a ≡ false) → 24 ≡ first_fault (unless a 24 ∷ unless b 24 ∷ [])
unfolding first_fault
one-unlike (inl w) = rw (w.0, w.1)
one-unlike (inr e) = rw e

-- the answers about `.varnames` and each of the others, at some positions
module _ (f : List ℕ) (t : List Span) (ids permids : List ℕ) where
  abbrev ordered_like : Bool
  ordered_like = agree f (varnames_in f t) ids (orderedvarnames_in f t) permids

  abbrev names_like : Bool
  names_like = agree f (varnames_in f t) ids (suppvarnames_in f t) (up_from (length ids) 0)

  -- `.varnames` isn't given
  pub varnames-missing : {n : ℕ} → n ≡ length (varnames_in f t) → n ≡ 0 → 0 ≡ first_fault (unless ordered_like 24 ∷ unless names_like 24 ∷ [])
  varnames-missing e h =
      both-like (sym (first-missing f (varnames_in f t) ids (orderedvarnames_in f t) permids e h))
      (sym (first-missing f (varnames_in f t) ids (suppvarnames_in f t) (up_from (length ids) 0) e h))

  -- it is, and the lists are held
  pub varnames-judged : {names lens names2 lens2 names3 lens3 : List ℕ} → NamesHeld f t Varnames names lens
      → NamesHeld f t Orderedvarnames names2 lens2 → NamesHeld f t Suppvarnames names3 lens3
      → {a b : Bool} → a ≡ agree f (places names lens) ids (places names2 lens2) permids
      → b ≡ agree f (places names lens) ids (places names3 lens3) (up_from (length ids) 0)
      → {r : ℕ} → r ≡ first_fault (unless a 24 ∷ unless b 24 ∷ []) → r ≡ first_fault (unless ordered_like 24 ∷ unless names_like 24 ∷ [])
  varnames-judged v o s a b e =
      rw (agree-held f ids permids v.names_are o.names_are a, agree-held f ids _ v.names_are s.names_are b) at e

-- three answers about names, of which the last comes first
turned : (a b c : Bool) → first_fault (unless c 24 ∷ unless a 24 ∷ unless b 24 ∷ []) ≡ first_fault (unless a 24 ∷ unless b 24 ∷ unless c 24 ∷ [])
unfolding first_fault
turned true true true = refl
turned true true false = refl
turned true false true = refl
turned true false false = refl
turned false true true = refl
turned false true false = refl
turned false false true = refl
turned false false false = refl

-- checks after the same ones
same_back : (xs ys zs : List ℕ) → first_fault ys ≡ first_fault zs → first_fault (xs ++ ys) ≡ first_fault (xs ++ zs)
unfolding first_fault
same_back [] ys zs e = e
same_back (zero ∷ xs) ys zs e = same_back xs ys zs e
same_back (suc n ∷ xs) ys zs e = refl

-- where the ids and the permids were read and counted
module _ {f : List ℕ} {t : List Span} {ids permids : List ℕ} (l : IdsRead f t ids permids) where
  -- there are as many permids as ids
  pub permids-ids : length permids ≡ length ids
  permids-ids = rw (l.listed.permids_are, l.listed.ids_are) (l.permids_counted ∙ sym l.ids_counted)

  -- the answer about the numbers of names and two of the lists, and after it the one about the third
  pub names-judged : {x r : ℕ} → x ≡ first_fault
      (name_count_faults f t ++ (unless (agree f (orderedvarnames_in f t) permids (suppvarnames_in f t) (up_from (length permids) 0)) 24 ∷ []))
      → r ≡ first_fault
      (x
      ∷ unless (agree f (varnames_in f t) ids (orderedvarnames_in f t) permids) 24
      ∷ unless (agree f (varnames_in f t) ids (suppvarnames_in f t) (up_from (length ids) 0)) 24 ∷ [])
      → r ≡ first_fault (name_count_faults f t ++ name_faults f t)
  unfolding name_faults
  names-judged {x} {r} e d =
      let c = supp_by_ordered f t in
      let e' : x ≡ first_fault (name_count_faults f t ++ (unless c 24 ∷ [])) = rw (l.listed.permids_are, l.permids_counted) at e in
      let d' : r ≡ first_fault (x ∷ unless (varnames_agree f t) 24 ∷ unless (supp_by_varnames f t) 24 ∷ [])
      = rw (l.listed.ids_are, l.listed.permids_are, l.ids_counted) at d in
      d'
      ∙ ap (λ n. first_fault (n ∷ unless (varnames_agree f t) 24 ∷ unless (supp_by_varnames f t) 24 ∷ [])) e'
      ∙ first_then (name_count_faults f t ++ (unless c 24 ∷ [])) _
      ∙ ap first_fault (append_assoc (name_count_faults f t) (unless c 24 ∷ []) _)
      ∙ same_back (name_count_faults f t) _ _ (turned (varnames_agree f t) (supp_by_varnames f t) c)
