-- What the checks of a header as a whole promise, over the parts that are lent to them.
use Rattle.std.specs.Prelude.{ℕ, zero, suc, ◌≡◌, Bool, List, [], ◌∷◌, ◌++◌, length, Result, Ok, Err}
use Rattle.codes.specs.Limits.{limits}
use Rattle.codes.specs.Faults.{first_fault, unless}
use Rattle.codes.specs.Lent.{Part, old, new}
use Rattle.codes.specs.declared.refusal.Fault.{Fault}
use Rattle.header_keys.specs.declared.Key.TheVariants.{Ids, Permids}
use Rattle.variable_names.specs.Names.{places, same_names, chosen_places}
use Rattle.header_values.specs.Promises.{table}
use Rattle.header_values.specs.Values.{pad, u32s_in}
use Rattle.header_checks.specs.Names.{up_from, agree, varnames_in, orderedvarnames_in, suppvarnames_in}
use Rattle.header_checks.specs.Whole.{support_faults, name_count_faults, name_faults, whole_after}

-- whether the names of a list, taken at the positions of its index, are those of another in their order
pub record InOrderPromise (f index starts lens starts2 lens2 : Part (List ℕ)) (r : Bool) : Type 0 where
  pub answer :
      r ≡ same_names (old f) (chosen_places (old index) (places (old starts) (old lens)))
      (chosen_places (up_from (length (old index)) 0) (places (old starts2) (old lens2)))

-- whether two lists of names, each taken at the positions of its index, agree: one that isn't given says nothing
pub record AgreePromise (f index starts lens index2 starts2 lens2 : Part (List ℕ)) (r : Bool) : Type 0 where
  pub answer :
      r ≡ agree (old f) (places (old starts) (old lens)) (old index) (places (old starts2) (old lens2)) (old index2)

-- whether a list of names, taken at the positions of its index, agrees with another in their order
pub record SuppAgreesPromise (f index starts lens starts2 lens2 : Part (List ℕ)) (r : Bool) : Type 0 where
  pub answer :
      r ≡ agree (old f) (places (old starts) (old lens)) (old index) (places (old starts2) (old lens2)) (up_from (length (old index)) 0)

module _ (f starts ends : Part (List ℕ)) where
  -- how many names there are, and whether `.orderedvarnames` at some positions and `.suppvarnames` agree
  pub record GivenNamesPromise (permids : Part (List ℕ)) (r : ℕ) : Type 0 where
    pub answer :
        r ≡ first_fault
        (name_count_faults (old f) (table starts ends)
        ++ (unless
        (agree (old f) (orderedvarnames_in (old f) (table starts ends)) (old permids) (suppvarnames_in (old f) (table starts ends))
        (up_from (length (old permids)) 0))
        24 ∷ []))

  -- whether `.varnames` and the others, each at its positions, agree
  pub record VarnamesPromise (ids permids : Part (List ℕ)) (r : ℕ) : Type 0 where
    pub answer :
        r ≡ first_fault
        (unless
        (agree (old f) (varnames_in (old f) (table starts ends)) (old ids) (orderedvarnames_in (old f) (table starts ends)) (old permids))
        24
        ∷ unless
        (agree (old f) (varnames_in (old f) (table starts ends)) (old ids) (suppvarnames_in (old f) (table starts ends))
        (up_from (length (old ids)) 0))
        24 ∷ [])

  -- the lists of names, counted and compared
  pub record NameFaultPromise (r : ℕ) : Type 0 where
    pub answer : r ≡ first_fault (name_count_faults (old f) (table starts ends) ++ name_faults (old f) (table starts ends))

  -- the support variables: the ids and the permids were read into their lists
  pub record SupportPromise (ids permids : Part (List ℕ)) (r : ℕ) : Type 0 where
    pub answer : r ≡ first_fault (support_faults (old f) (table starts ends))
    pub ids_left : new ids ≡ pad (length (old ids)) (u32s_in (old f) (table starts ends) Ids)
    pub permids_left : new permids ≡ pad (length (old permids)) (u32s_in (old f) (table starts ends) Permids)

-- the answer of a number: nothing for 0, and else a refusal that has no line
abbrev pub whole_of : ℕ → Result Unit Fault
whole_of zero = Ok tt
whole_of (suc n) = Err (record { number = suc n; line = 0 })

-- the header as a whole, after what was found before; where there is no refusal, the ids and the permids were read into their lists
pub record WholePromise (f : Part (List ℕ)) (found : ℕ) (starts ends ids permids : Part (List ℕ)) (r : Result Unit Fault) : Type 0 where
  pub answer : r ≡ whole_of (whole_after limits found (old f) (table starts ends))
  pub ids_left : r ≡ Ok tt → new ids ≡ pad (length (old ids)) (u32s_in (old f) (table starts ends) Ids)
  pub permids_left : r ≡ Ok tt → new permids ≡ pad (length (old permids)) (u32s_in (old f) (table starts ends) Permids)
