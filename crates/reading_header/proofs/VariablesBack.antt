-- The names of variables, found by the levels: in `.orderedvarnames` that of a support variable stands at its permid.
use mathlib.Core.Path.{◌≡◌, refl, sym, ap, ◌∙◌}
use mathlib.Core.Bool.{true}
use mathlib.Core.List.{List, [], ◌∷◌, map}
use Prim.Native.Nat.{ℕ, zero, suc, ◌+◌, ◌-◌, ◌≤◌, ◌<◌}
use native.Mathlib.Numerals.{add-one}
use native.Mathlib.Omega.{arith}
use lib.Dec.{ltb}
use lib.ListN.{length, get_or, drop, drop_of_length-le, get_or-map}
use lib.Seq.{drop-cons}
use borrow.Author.Tests.{ltb-true}
use Rattle.codes.proofs.Bytes.{both}
use Rattle.read_text.specs.Text.{Place}
use Rattle.seats.specs.Seats.{seat_of}
use Rattle.support.specs.Support.{all_below, permids_fit}
use Rattle.seats.specs.Ordered.{distinct}
use Rattle.variable_names.specs.Names.{empty_name, free_from, ordered_from, ordered_seats, variable_names}
use Rattle.variable_names.specs.Names as places
use Rattle.variable_names.proofs.RestInOrder.{ordered-seat}
use Rattle.seats.proofs.Seating.{seat-most}
use Rattle.support.proofs.Ascending.{ids-below}
use Rattle.support.proofs.Distinct.{permids-below}
use Rattle.header_checks.specs.Names.{up_from}
use Rattle.variable_order.specs.Order.{is_order}
use Rattle.export_names.specs.Names.{name_at}
use Rattle.seats.proofs.NumberSeats.{seat-found}
use Rattle.variable_order.proofs.Permutation.{order-length}
use Rattle.heading.specs.Heading.{ids_from, permids_of, variables_from, chosen_names}
use Rattle.reading_header.specs.HeaderBack.{variable_of_level}
use Rattle.reading_header.specs.ValuesBack.{Named}
use Rattle.reading_header.proofs.KeptLevels.{ids-fit}
use Rattle.reading_header.proofs.SupportBack.{permids-fit, variables-ids, ids_counted, id-there}
use Rattle.reading_header.proofs.AgreementBack.{name-at}

-- All names of a list, in their order.
names-from : (k i : ℕ) (names : List (List ℕ)) → i + k ≡ length names → chosen_names (up_from k i) names ≡ drop i names
unfolding chosen_names up_from
names-from zero i names e = let h : length names ≤ i = omega arith in sym (drop_of_length-le names h)
names-from (suc k) i names e = rw (names-from k (i + 1) names (omega arith), add-one i) (sym (drop-cons names i [] (omega arith)))

pub names-in-order : (names : List (List ℕ)) → chosen_names (up_from (length names) 0) names ≡ names
names-in-order names = names-from (length names) 0 names (omega arith)

module _ (order : List ℕ) (names : List (List ℕ)) where
  -- Of the names in the order of the levels, each is that of its level's variable.
  name-of-level : (k l i : ℕ) → i < k → get_or (chosen_names (variables_from k l order) names) i [] ≡ get_or names (variable_of_level order (l + i)) []
  unfolding chosen_names variables_from
  name-of-level zero l i h = absurd (omega arith)
  name-of-level (suc k) l zero h = let z : l + 0 ≡ l = omega arith in rw z
  name-of-level (suc k) l (suc i) h = let z : l + 1 + i ≡ l + suc i = omega arith in name-of-level k (l + 1) i (omega arith) ∙ rw z

  names-of-levels : (n : ℕ) (ls : List ℕ) → all_below n ls ≡ true
      → chosen_names ls (chosen_names (variables_from n 0 order) names) ≡ chosen_names (map (variable_of_level order) ls) names
  unfolding chosen_names all_below
  names-of-levels n [] h = refl
  names-of-levels n (l ∷ ls) h =
      let p = both (ltb l n) (all_below n ls) h in
      let z : 0 + l ≡ l = omega arith in
      rw (names-of-levels n ls p.1, name-of-level n 0 l (ltb-true l n p.0), z)

module _ (n : ℕ) (order : List ℕ) (perm : is_order n order ≡ true) (support : List ℕ) where
  abbrev ids : List ℕ
  ids = ids_from support 0 order

  abbrev permids : List ℕ
  permids = permids_of support order

  -- The permids are the levels of the ids, so that both have the same names.
  pub permids-names : (names : List (List ℕ)) → chosen_names permids (chosen_names (variables_from n 0 order) names) ≡ chosen_names ids names
  unfolding permids_fit
  permids-names names =
      let p = both (all_below n permids) (distinct permids) (permids-fit n order perm support) in
      names-of-levels order names n permids p.0 ∙ ap (λ is. chosen_names is names) (variables-ids n order perm support)

  -- A support variable, its position among the ids, and the permid there, which is its level.
  module _ (v : ℕ) (h : 1 ≤ seat_of v ids) where
    abbrev position : ℕ
    position = seat_of v ids - 1

    abbrev level : ℕ
    level = get_or permids position 0

    position-low : position < length permids
    position-low = omega (arith, seat-most v ids, ids_counted n order perm support)

    pub id-low : v < n
    id-low =
        let k : position < length ids = omega (arith, seat-most v ids) in
        omega (arith, ids-below (length order) ids (ids-fit support order) position k, seat-found v ids h, order-length n order perm)

    level_low : level < n
    level_low = permids-below n permids (permids-fit n order perm support) position position-low

    variable : variable_of_level order level ≡ v
    variable = sym (id-there n order perm support position position-low) ∙ seat-found v ids h

    -- Its name, where `.orderedvarnames` has the names in the order of the levels.
    pub ordered-name : (names : List (List ℕ)) {f : List ℕ} {op : List Place} → Named f op (chosen_names (variables_from n 0 order) names)
        → name_at f (get_or (map (places.name_at_seat op) (ordered_seats n ids permids)) v empty_name) ≡ get_or names v []
    unfolding ordered_seats
    ordered-name names {f} {op} o =
        let z : 0 + v ≡ v = omega arith in
        let y : 0 + level ≡ level = omega arith in
        let i : seat_of v ids ≡ suc position = omega arith in
        let s = ordered-seat ids permids n 0 v position (free_from n 0 permids) id-low (rw z i) in
        ap (name_at f) (get_or-map (places.name_at_seat op) (ordered_from n 0 ids permids (free_from n 0 permids)) v 0 ∙ ap (places.name_at_seat op) s)
        ∙ name-at o level
        ∙ name-of-level order names n 0 level level_low
        ∙ rw (y, variable)

-- Where no list has names no variable has one.
pub none-given : (n : ℕ) (ids permids : List ℕ) (vp op sp : List Place) → length vp ≡ 0 → length op ≡ 0 → length sp ≡ 0
    → variable_names n ids permids vp op sp ≡ []
unfolding variable_names
none-given n ids permids [] [] [] h k l = refl
none-given n ids permids (p ∷ vp) op sp h k l = absurd (omega arith)
none-given n ids permids [] (p ∷ op) sp h k l = absurd (omega arith)
none-given n ids permids [] [] (p ∷ sp) h k l = absurd (omega arith)
