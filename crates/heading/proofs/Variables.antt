-- Variables and levels, one after another.
use mathlib.Core.Path.{◌≡◌, ap}
use mathlib.Core.Bool.{true, false}
use mathlib.Core.List.{List, [], ◌∷◌}
use Prim.Native.Nat.{ℕ, suc, ◌+◌, ◌-◌, ◌≤◌, ◌<◌}
use native.Mathlib.Numerals.{add-one}
use native.Mathlib.Omega.{arith}
use lib.ListN.{length, get_or, drop, drop_of_length-le}
use lib.Seq.{drop-cons}
use Rattle.seats.specs.Seats.{Seats}
use Rattle.seats.proofs.Seating.{seat-most}
use Rattle.variable_order.specs.Order.{is_order}
use Rattle.variable_order.proofs.Permutation.{order_below, level-seated}
use Rattle.reached.specs.Meet.{is_in}
use Rattle.heading.specs.Tables.{Seatable, Ordered}
use Rattle.heading.specs.Heading.{ids_from, permids_of, variables_from, chosen_names}
use Rattle.heading.proofs.Writing.{Writing, words, words-as}

-- each level has a place in the table of seats
pub ordered-seatable : {order vars seats : List ℕ} → Ordered order vars seats → Seatable order seats
ordered-seatable {order} o v h = omega (arith, order_below (length order) order o.is_an_order v h, o.seats_long)

-- Where the first v variables are passed: those that are left, and their levels.
module _ (support order : List ℕ) (v : ℕ) where
  abbrev pub remaining_ids : List ℕ
  remaining_ids = ids_from support v (drop v order)

  abbrev pub levels_left : List ℕ
  levels_left = permids_of support (drop v order)

module _ (support order : List ℕ) (v : ℕ) (h : v < length order) where
  -- variable v is one of the support, so it comes next
  module _ (e : is_in (get_or order v 0) support ≡ true) where
    pub id_next : remaining_ids support order v ≡ v ∷ remaining_ids support order (v + 1)
    unfolding ids_from
    id_next = rw (drop-cons order v 0 h, e, add-one v)

    pub level-next : levels_left support order v ≡ get_or order v 0 ∷ levels_left support order (v + 1)
    unfolding permids_of
    level-next = rw (drop-cons order v 0 h, e, add-one v)

  -- it is none of the support
  module _ (e : is_in (get_or order v 0) support ≡ false) where
    pub id-passed : remaining_ids support order v ≡ remaining_ids support order (v + 1)
    unfolding ids_from
    id-passed = rw (drop-cons order v 0 h, e, add-one v)

    pub level-passed : levels_left support order v ≡ levels_left support order (v + 1)
    unfolding permids_of
    level-passed = rw (drop-cons order v 0 h, e, add-one v)

-- all are passed
module _ (support order : List ℕ) (v : ℕ) (h : length order ≤ v) where
  pub ids-end : remaining_ids support order v ≡ []
  unfolding ids_from
  ids-end = rw (drop_of_length-le order h)

  pub levels-end : levels_left support order v ≡ []
  unfolding permids_of
  levels-end = rw (drop_of_length-le order h)

-- The variables of the levels from l on.
module _ (order : List ℕ) (l : ℕ) where
  abbrev pub variables_left : List ℕ
  variables_left = variables_from (length order - l) l order

  pub variables-end : length order ≤ l → variables_left ≡ []
  unfolding variables_from
  variables-end h = let e : length order - l ≡ 0 = omega arith in rw e

pub variables-start : (order : List ℕ) → variables_from (length order) 0 order ≡ variables_left order 0
variables-start order = let e : length order - 0 ≡ length order = omega arith in rw e

-- A table of each level's variable, counted from 1, of which level l's comes next.
module _ (order vars : List ℕ) (p : is_order (length order) order ≡ true) (seats : Seats order vars) (long : length order ≤ length vars) (l : ℕ)
    (h : l < length order) where
  pub variable-some : 1 ≤ get_or vars l 0
  variable-some = rw (seats l (omega arith)) (level-seated (length order) order p l h)

  pub variable-there : get_or vars l 0 ≤ length order
  variable-there = rw (seats l (omega arith)) (seat-most l order)

  pub variable-next : variables_left order l ≡ (get_or vars l 0 - 1) ∷ variables_left order (l + 1)
  unfolding variables_from
  variable-next = let e : length order - l ≡ suc (length order - (l + 1)) = omega arith in rw (e, seats l (omega arith))

-- the names of the variables that are left, with those said otherwise
pub names-as : {old : List ℕ} {at : ℕ} {all out : List ℕ} {next : ℕ} (names : List (List ℕ)) {vs ws : List ℕ} → vs ≡ ws
    → Writing old at all out next (words (chosen_names vs names)) → Writing old at all out next (words (chosen_names ws names))
names-as names e w = words-as (ap (λ vs. chosen_names vs names) e) w
