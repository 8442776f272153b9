-- The support variables of an export: they fit a header, are as many as the levels that have a line, and their order comes back.
use mathlib.Core.Path.{◌≡◌, refl, sym, ap, ◌∙◌}
use mathlib.Core.Bool.{Bool, true, false, cond, and-false}
use mathlib.Core.List.{List, [], ◌∷◌, map}
use Prim.Native.Nat.{ℕ, zero, suc, ◌+◌, ◌-◌, ◌≤◌, ◌<◌}
use native.Mathlib.Omega.{arith}
use native.Mathlib.Decide.{ℕ_discrete}
use lib.Dec.{eqb, ltb}
use lib.ListN.{length, get_or, length-map}
use borrow.Author.Tests.{ltb-true}
use Rattle.codes.proofs.Bytes.{both}
use Rattle.seats.specs.Seats.{seat_of}
use Rattle.seats.specs.Ordered.{ascending}
use Rattle.support.specs.Support.{last_below, ids_fit, permids_fit, seated, order_from, support_order}
use Rattle.seats.proofs.Seating.{seat-most}
use Rattle.support.proofs.Ascending.{ids-below}
use Rattle.header_checks.specs.Names.{up_from}
use Rattle.reached.specs.Meet.{is_in}
use Rattle.reached.proofs.Entries.{in-here, in-seat}
use Rattle.reached.proofs.EntrySeats.{seat-in, out-seat}
use Rattle.reached.proofs.Members.{in-none}
use Rattle.variable_order.specs.Order.{is_order}
use Rattle.seats.proofs.NumberSeats.{seat-found}
use Rattle.variable_order.proofs.Permutation.{few-differ, order-distinct, variable-seat, level-seated}
use Rattle.seats.proofs.MappedEntries.{mapped_at}
use Rattle.heading.specs.Heading.{Heading, ids_from, permids_of}
use Rattle.reading_header.specs.HeadWords.{ids_of, levels_of}
use Rattle.reading_header.specs.HeaderBack.{Fit, variable_of_level}
use Rattle.reading_header.proofs.KeptLevels.{in-other, kept_in, kept-fit, ids-fit, variables-from, none_kept, kept_same, kept_more}

-- Where levels ascend, one lower than the first is none of them,
lower-out : (x y : ℕ) (l : List ℕ) → ascending (y ∷ l) ≡ true → x < y → is_in x (y ∷ l) ≡ false
unfolding ascending
lower-out x y [] a h = in-other x y [] (λ e. omega arith) ∙ in-none x
lower-out x y (z ∷ l) a h =
    let p = both (ltb y z) (ascending (z ∷ l)) a in
    in-other x y (z ∷ l) (λ e. omega arith) ∙ lower-out x z l p.1 (omega (arith, ltb-true y z p.0))

-- and the first is none of the others.
first_out : (y : ℕ) (l : List ℕ) → ascending (y ∷ l) ≡ true → is_in y l ≡ false
unfolding ascending
first_out y [] a = in-none y
first_out y (z ∷ l) a = let p = both (ltb y z) (ascending (z ∷ l)) a in lower-out y z l p.1 (ltb-true y z p.0)

-- levels the first of which is p or later
abbrev From : ℕ → List ℕ → Type 0
From p [] = Unit
From p (s ∷ l) = p ≤ s

-- The others start after the first,
from_next : (y : ℕ) (l : List ℕ) → ascending (y ∷ l) ≡ true → From (y + 1) l
unfolding ascending
from_next y [] a = tt
from_next y (z ∷ l) a = omega (arith, ltb-true y z (both (ltb y z) (ascending (z ∷ l)) a).0)

-- and fit where all do.
module _ (n : ℕ) where
  fit-ascends : (l : List ℕ) → ids_fit n l ≡ true → ascending l ≡ true
  unfolding ids_fit
  fit-ascends l h = (both (ascending l) (last_below n l) h).0

  fit-rest : (y : ℕ) (l : List ℕ) → ids_fit n (y ∷ l) ≡ true → ids_fit n l ≡ true
  unfolding ids_fit ascending last_below
  fit-rest y [] h = refl
  fit-rest y (z ∷ l) h =
      let p = both (ascending (y ∷ z ∷ l)) (last_below n (z ∷ l)) h in
      rw (both (ltb y z) (ascending (z ∷ l)) p.0).1 p.1

-- Of the levels p, p + 1, .., up to n, those that have a line are the support, where it starts at p or later.
up-out : (k p x : ℕ) → x < p → is_in x (up_from k p) ≡ false
unfolding up_from
up-out zero p x h = in-none x
up-out (suc k) p x h = in-other x p (up_from k (p + 1)) (λ e. omega arith) ∙ up-out k (p + 1) x (omega arith)

up_kept : (n k p : ℕ) (support : List ℕ) → ids_fit n support ≡ true → From p support → p + k ≡ n → permids_of support (up_from k p) ≡ support
unfolding permids_of up_from
up_kept n zero p [] f h e = refl
up_kept n zero p (s ∷ support) f h e = absurd (omega (arith, ids-below n (s ∷ support) f 0 (omega arith)))
up_kept n (suc k) p [] f h e = none_kept (up_from (suc k) p)
up_kept n (suc k) p (s ∷ support) f h e = go (ℕ_discrete p s) (up_kept n k (p + 1))
  where
    a : ascending (s ∷ support) ≡ true
    a = fit-ascends n (s ∷ support) f

    go : Dec (p ≡ s) → ((l : List ℕ) → ids_fit n l ≡ true → From (p + 1) l → p + 1 + k ≡ n → permids_of l (up_from k (p + 1)) ≡ l)
        → permids_of (s ∷ support) (up_from (suc k) p) ≡ s ∷ support
    go (yes q) later =
        let r = later support (fit-rest n s support f) (rw q (from_next s support a)) (omega arith) in
        rw (q, in-here s support, kept_same s support (up_from k (s + 1)) (up-out k (s + 1) s (omega arith))) (ap (λ l. s ∷ l) (rw q at r))
    go (no q) later =
        rw (lower-out p s support a (omega (arith, q))) (later (s ∷ support) f (omega (arith, q)) (omega arith))

module _ (n : ℕ) (order : List ℕ) (perm : is_order n order ≡ true) where
  -- The levels of the support variables fit a header,
  pub permids-fit : (support : List ℕ) → permids_fit n (permids_of support order) ≡ true
  unfolding is_order
  permids-fit support = kept-fit support n order (both (eqb (length order) n) (permids_fit n order) perm).1

  -- and are as many as the levels that have a line, since the order has each level.
  permids_counted : (support : List ℕ) → ids_fit n support ≡ true → length (permids_of support order) ≡ length support
  permids_counted [] f = ap length (none_kept order)
  permids_counted (s ∷ support) f =
      kept_more s support order (order-distinct n order perm) (first_out s support (fit-ascends n (s ∷ support) f))
      (seat-in s order (level-seated n order perm s (ids-below n (s ∷ support) f 0 (omega arith))))
      ∙ ap suc (permids_counted support (fit-rest n s support f))

  module _ (support : List ℕ) where
    abbrev ids : List ℕ
    ids = ids_from support 0 order

    abbrev permids : List ℕ
    permids = permids_of support order

    -- The variables of the permids are the ids,
    pub variables-ids : map (variable_of_level order) permids ≡ ids
    variables-ids = variables-from support order 0 order (λ v h. variable-seat n order perm v h ∙ omega arith)

    pub ids_counted : length ids ≡ length permids
    ids_counted = ap length (sym variables-ids) ∙ length-map permids (variable_of_level order)

    -- each at its permid's position.
    pub id-there : (i : ℕ) → i < length permids → get_or ids i 0 ≡ variable_of_level order (get_or permids i 0)
    id-there i h = ap (λ l. get_or l i 0) (sym variables-ids) ∙ mapped_at (variable_of_level order) permids i 0 0 h

    -- the variable of a level, where that has a line
    order-one : (p : ℕ) → p < n → (b : Bool) → is_in p support ≡ b → (more : List ℕ)
        → seated (seat_of p permids) ids (map (variable_of_level order) more) ≡ map (variable_of_level order) (cond b (p ∷ more) more)
    order-one p h true e more =
        let s = in-seat p permids (kept_in support p order ∙ rw (seat-in p order (level-seated n order perm p h), e)) in
        let i : seat_of p permids ≡ suc (seat_of p permids - 1) = omega arith in
        rw (i, id-there (seat_of p permids - 1) (omega (arith, seat-most p permids)), seat-found p permids s)
    order-one p h false e more = rw (out-seat p permids (kept_in support p order ∙ rw (e, and-false (is_in p order))))

    order-from : (k p : ℕ) → p + k ≡ n → order_from k p ids permids ≡ map (variable_of_level order) (permids_of support (up_from k p))
    unfolding order_from permids_of up_from
    order-from zero p e = refl
    order-from (suc k) p e =
        rw (order-from k (p + 1) (omega arith)) (order-one p (omega arith) (is_in p support) refl (permids_of support (up_from k (p + 1))))

    -- 'Support order is `.ids` arranged by ascending permid': the variables of the levels that have a line, as these ascend.
    pub order-back : ids_fit n support ≡ true → support_order n ids permids ≡ map (variable_of_level order) support
    unfolding support_order
    order-back f = order-from n 0 (omega arith) ∙ ap (map (variable_of_level order)) (up_kept n n 0 support f (all support) (omega arith))
      where
        all : (l : List ℕ) → From 0 l
        all [] = tt
        all (s ∷ l) = omega arith

-- What a header that fits has of them.
pub record Supported (h : Heading) : Type 0 where
  pub ids : ids_fit (length h.order) (ids_of h) ≡ true
  pub permids : permids_fit (length h.order) (levels_of h) ≡ true
  pub ids_counted : length (ids_of h) ≡ length h.support
  pub permids_counted : length (levels_of h) ≡ length h.support
  pub few : length h.support ≤ length h.order

pub supported : {h : Heading} → Fit h → Supported h
supported {h} fit =
    let n = length h.order in
    let counted = permids_counted n h.order fit.order h.support fit.support in
    let fits = permids-fit n h.order fit.order h.support in
    record {
      ids = ids-fit h.support h.order;
      permids = fits;
      ids_counted = ids_counted n h.order fit.order h.support ∙ counted;
      permids_counted = counted;
      few = omega (arith, few-differ n (levels_of h) fits);
    }
