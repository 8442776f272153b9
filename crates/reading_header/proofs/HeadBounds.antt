-- The numbers of a header are small and its lists are short; the names that it lists are among those that were given.
use mathlib.Core.Path.{◌≡◌, refl, ap, ◌∙◌}
use mathlib.Core.Bool.{Bool, true, false, cond}
use mathlib.Core.List.{List, []}
use mathlib.Core.Logic.{inl, inr}
use Prim.Native.Nat.{ℕ, zero, suc, ◌+◌, ◌-◌, ◌^◌, ◌≤◌, ◌<◌}
use native.Mathlib.Omega.{arith}
use lib.IntN.{pos, nat_abs}
use lib.ListN.{length, get_or, length-map}
use borrow.Author.Tests.{eqb-true}
use Rattle.codes.specs.Limits.{var_limit, root_limit}
use Rattle.codes.specs.declared.DDDMPVersion.{DDDMPVersion}
use Rattle.codes.specs.declared.DDDMPVersion.TheVariants.{V2_0, V3_0}
use Rattle.read_lines.specs.Each.{Each, none, each}
use Rattle.seats.specs.Seats.{seat_of}
use Rattle.seats.proofs.Seating.{seat-most}
use Rattle.support.proofs.Ascending.{ids-below}
use Rattle.support.proofs.Distinct.{permids-below}
use Rattle.heading.specs.Heading.{Heading, variables_from, chosen_names}
use Rattle.reading_header.specs.HeadWords.{ids_of, levels_of, all_names, supp_names, ordered_names, named, varname_words, suppvarname_words, orderedvarname_words, FewNames}
use Rattle.reading_header.specs.HeaderBack.{AllOrNone, Fit}
use Rattle.reading_header.proofs.Elements.{each-by, each_map, each_at, each-by-position}
use Rattle.reading_header.proofs.SupportBack.{supported}

-- the variable of a level is one of the order
variables-below : (order : List ℕ) (k l : ℕ) → k ≤ length order → Each (λ v. v < length order) (variables_from k l order)
unfolding variables_from
variables-below order zero l h = none
variables-below order (suc k) l h =
    let q : seat_of l order - 1 < length order = omega (arith, seat-most l order) in each q (variables-below order k (l + 1) (omega arith))

variables-counted : (order : List ℕ) (k l : ℕ) → length (variables_from k l order) ≡ k
unfolding variables_from
variables-counted order zero l = refl
variables-counted order (suc k) l = ap suc (variables-counted order k (l + 1))

-- chosen names are some of all
chosen-each : {P : List ℕ → Type 0} {vs : List ℕ} {names : List (List ℕ)} → Each P names → Each (λ v. v < length names) vs → Each P (chosen_names vs names)
unfolding chosen_names
chosen-each ps = each_map _ (λ v h. each_at v [] h ps)

chosen-counted : (vs : List ℕ) (names : List (List ℕ)) → length (chosen_names vs names) ≡ length vs
unfolding chosen_names
chosen-counted vs names = length-map vs (λ v. get_or names v [])

-- names of all, or none
given-few : (names : List (List ℕ)) (n max : ℕ) → AllOrNone names n → n ≤ max → length names ≤ max
given-few names n max (inl e) k = omega arith
given-few names n max (inr e) k = omega arith

module _ {h : Heading} (fit : Fit h) where
  pub supp-names-counted : length (supp_names h) ≡ length h.support
  supp-names-counted = chosen-counted (ids_of h) h.names ∙ (supported fit).ids_counted

  pub ordered-names-counted : length (ordered_names h) ≡ length h.order
  ordered-names-counted =
      chosen-counted (variables_from (length h.order) 0 h.order) h.names ∙ variables-counted h.order (length h.order) 0

  ids-low : Each (λ v. v < length h.order) (ids_of h)
  ids-low = each-by-position 0 (ids_of h) (ids-below (length h.order) (ids_of h) (supported fit).ids)

  -- The support variables and their levels are numbers that a list may have,
  pub ids-small : Each (λ v. v < 2 ^ 32) (ids_of h)
  ids-small = each-by (λ v k. omega (arith, fit.few_variables)) ids-low

  pub levels-small : Each (λ l. l < 2 ^ 32) (levels_of h)
  levels-small =
      each-by-position 0 (levels_of h)
      (λ i k. omega (arith, fit.few_variables, permids-below (length h.order) (levels_of h) (supported fit).permids i k))

  -- and so are the roots.
  pub roots-small : Each (λ e. nat_abs e < 2 ^ 63) h.rootids
  roots-small = each-by-position (pos 0) h.rootids (λ i k. omega (arith, fit.few_nodes, fit.root_low i k))

  -- what holds of the names in a line, where it is written, holds of what there is
  when-named : {ws : List (List ℕ)} → (length h.names ≡ length h.order → FewNames var_limit ws) → FewNames var_limit (cond (named h) ws [])
  when-named {ws} f = go (named h) refl
    where
      go : (b : Bool) → named h ≡ b → FewNames var_limit (cond b ws [])
      go true e = f (eqb-true _ _ e)
      go false e = record { fit = none; few = omega arith }

  names-few : length h.names ≤ var_limit
  names-few = given-few h.names (length h.order) var_limit fit.names_counted fit.few_variables

  -- The names of each line are fit, and few.
  pub varnames-few : FewNames var_limit (varname_words h)
  unfolding varname_words
  varnames-few = when-named (λ e. by h.version)
    where
      by : (v : DDDMPVersion) → FewNames var_limit (all_names v h.names)
      by V2_0 = record { fit = none; few = omega arith }
      by V3_0 = record { fit = fit.names; few = names-few }

  pub suppvarnames-few : FewNames var_limit (suppvarname_words h)
  unfolding suppvarname_words
  suppvarnames-few = when-named (λ e. record {
    fit = chosen-each fit.names (rw e ids-low);
    few = omega (arith, supp-names-counted, (supported fit).few, fit.few_variables);
  })

  pub orderedvarnames-few : FewNames var_limit (orderedvarname_words h)
  unfolding orderedvarname_words
  orderedvarnames-few = when-named (λ e. record {
    fit = chosen-each fit.names (rw e (variables-below h.order (length h.order) 0 (omega arith)));
    few = omega (arith, ordered-names-counted, fit.few_variables);
  })

  pub rootnames-few : FewNames root_limit h.rootnames
  rootnames-few = record {
    fit = fit.rootnames;
    few = given-few h.rootnames (length h.rootids) root_limit fit.rootnames_counted fit.few_roots;
  }
