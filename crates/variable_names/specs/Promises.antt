-- What comparing lists of names and seating variables promises, over the parts that are lent.
use Rattle.std.specs.Prelude.{◌≡◌, Bool, List, ℕ, length}
use Rattle.codes.specs.Lent.{Part, old, new, laid}
use Rattle.variable_names.specs.Names.{places, same_names, chosen_places, free_from, ordered_seats, supp_seats}

pub record SameNamesPromise (f index starts lens index2 starts2 lens2 : Part (List ℕ)) (r : Bool) : Type 0 where
  -- whether two lists of names, each taken at the positions of its index, are alike
  pub answer :
      r ≡ same_names (old f) (chosen_places (old index) (places (old starts) (old lens))) (chosen_places (old index2) (places (old starts2) (old lens2)))

-- There are as many variables as scratch has entries. The positions that are no permids,
pub record FreePromise (permids seats dst : Part (List ℕ)) : Type 0 where
  pub list : new dst ≡ laid (free_from (length (old seats)) 0 (old permids)) (old dst)

-- where each variable's name stands in `.orderedvarnames`,
pub record OrderedSeatsPromise (ids permids seats dst : Part (List ℕ)) : Type 0 where
  pub list : new dst ≡ laid (ordered_seats (length (old seats)) (old ids) (old permids)) (old dst)

-- and in `.suppvarnames`
pub record SuppSeatsPromise (ids seats dst : Part (List ℕ)) : Type 0 where
  pub list : new dst ≡ laid (supp_seats (length (old seats)) (old ids)) (old dst)
