-- The level list is one that a load accepts, and the levels of the variables are a permutation, for every header's ids and permids.
use mathlib.Core.Path.{◌≡◌, refl, sym, ap, ◌∙◌}
use mathlib.Core.List.{List, ◌∷◌, map}
use Prim.Native.Nat.{ℕ, zero, suc, ◌+◌, ◌-◌, ◌<◌}
use native.Mathlib.Omega.{arith}
use lib.ListN.{length, get_or, length-map, get_or-map}
use Rattle.seats.specs.Seats.{seat_of}
use Rattle.seats.specs.Outside.{Outside, outside_below}
use Rattle.seats.proofs.Seating.{seat-most}
use Rattle.seats.proofs.NumberSeats.{seat-found}
use Rattle.seats.proofs.MappedEntries.{mapped_at}
use Rattle.seats.proofs.Counting.{unseated-outside, outside-unique}
use Rattle.support.specs.Support.{IdsAllowed, PermidsAllowed, order_from, support_order}
use Rattle.support.specs.Order.{ArrangedByPermid}
use Rattle.support.proofs.ByPermid.{support-arranged}
use Rattle.variable_names.specs.Rest.{RestPosition}
use Rattle.variable_names.specs.Names.{ordered_seats}
use Rattle.variable_names.proofs.RestInOrder.{seats-by-permid}
use Rattle.recode_levels.specs.Levels.{taken_from, level_list, variable_levels}
use Rattle.recode_levels.specs.LevelRules.{PermidsAscending, LevelsByPermid}

-- the level list is the permids themselves, in support order
taken-order : (n p : ℕ) (permids : List ℕ) → taken_from n p permids ≡ order_from n p permids permids
unfolding taken_from order_from
taken-order zero p permids = refl
taken-order (suc n) p permids = go (taken-order n (p + 1) permids) (seat_of p permids) refl
  where
    go : taken_from n (p + 1) permids ≡ order_from n (p + 1) permids permids → (s : ℕ) → seat_of p permids ≡ s
        → taken_from (suc n) p permids ≡ order_from (suc n) p permids permids
    go q zero e = rw (taken_from, order_from, e) q
    go q (suc i) e =
        let d : seat_of p permids - 1 ≡ i = omega arith in
        let f : get_or permids i 0 ≡ p = rw d at (seat-found p permids (omega arith)) in
        rw (taken_from, order_from, e, f) (ap (λ l. p ∷ l) q)

module _ (nvars : ℕ) (permids : List ℕ) (b : PermidsAllowed nvars permids) where
  -- so it is arranged by ascending permid
  list-arranged : ArrangedByPermid permids permids (level_list nvars permids)
  unfolding level_list support_order
  list-arranged = rw (taken-order nvars 0 permids) (support-arranged nvars permids permids b refl)

  -- 'Its level list is the file's permids, ascending.'
  pub list-ascending : PermidsAscending permids (level_list nvars permids)
  list-ascending = go list-arranged
    where
      go : {l : List ℕ} → ArrangedByPermid permids permids l → PermidsAscending permids l
      go {l} r =
          let at : ℕ → ℕ = λ i. get_or permids i 0 in
          let n : length l ≡ length r.positions = ap length r.order_is ∙ length-map r.positions at in
          record {
            ascends = rw r.order_is r.ascends;
            as_many = n ∙ r.as_many;
            each = λ i h. let t = r.all i h in (t.0, (omega (arith, t.1.0), entry r t.0 t.1.0 ∙ ap at t.1.1));
            only = λ j h. let k : j < length r.positions = omega arith in (get_or r.positions j 0, (r.within j k, sym (entry r j k)));
          }
        where
          entry : (r : ArrangedByPermid permids permids l) (j : ℕ) → j < length r.positions
              → get_or l j 0 ≡ get_or permids (get_or r.positions j 0) 0
          entry r j h = ap (λ m. get_or m j 0) r.order_is ∙ mapped_at (λ i. get_or permids i 0) r.positions j 0 0 h

  -- it is one that a load at so many levels accepts: strictly ascending, below the level count
  pub permids-list-allowed : IdsAllowed nvars (level_list nvars permids)
  permids-list-allowed =
      let l = list-ascending in
      record {
        ascends = l.ascends;
        last = λ n e. let t = l.only n (omega arith) in omega (arith, b.below t.0 t.1.0, t.1.1);
      }

module _ (nvars : ℕ) (ids permids : List ℕ) (a : IdsAllowed nvars ids) (b : PermidsAllowed nvars permids) (e : length ids ≡ length permids) where
  -- 'variables outside the support take the free levels, both ascending'
  pub levels-by-permid : LevelsByPermid nvars ids permids (variable_levels nvars ids permids)
  unfolding variable_levels
  levels-by-permid =
      let seats = ordered_seats nvars ids permids in
      let s = seats-by-permid nvars ids permids a b e in
      record {
        as_many = length-map seats (λ n. n - 1) ∙ s.as_many;
        support = λ i h. level (get_or ids i 0) (get_or permids i 0) (s.support i h);
        rest = λ v h o. let r = s.rest v h o in rw (level v r.0 r.1.1) r.1.0;
      }
    where
      level : (v p : ℕ) → get_or (ordered_seats nvars ids permids) v 0 ≡ suc p
          → get_or (map (λ n. n - 1) (ordered_seats nvars ids permids)) v 0 ≡ p
      level v p q = get_or-map (λ n. n - 1) (ordered_seats nvars ids permids) v 0 ∙ omega arith

  -- levels of the variables
  module _ {levels : List ℕ} (l : LevelsByPermid nvars ids permids levels) where
    -- a variable is a support variable, whose level is a permid, or outside the support, with a level that is none
    data Levelled (v : ℕ) : Type 0 where
      inside : (i : ℕ) → i < length ids → get_or ids i 0 ≡ v → get_or levels v 0 ≡ get_or permids i 0 → Levelled v
      outside : Outside v ids → RestPosition nvars ids permids v (get_or levels v 0) → Levelled v

    levelled : (v : ℕ) → v < nvars → Levelled v
    levelled v h = go (seat_of v ids) refl
      where
        go : (s : ℕ) → seat_of v ids ≡ s → Levelled v
        go zero q = let o = unseated-outside v ids q in outside o (l.rest v h o)
        go (suc i) q =
            let d : seat_of v ids - 1 ≡ i = omega arith in
            let k : i < length ids = omega (arith, seat-most v ids) in
            let f : get_or ids i 0 ≡ v = rw d at (seat-found v ids (omega arith)) in
            inside i k f (ap (λ x. get_or levels x 0) (sym f) ∙ l.support i k)

    -- each is below the level count
    level-below : (v : ℕ) → Levelled v → get_or levels v 0 < nvars
    level-below v (inside i h q f) = omega (arith, b.below i (omega arith))
    level-below v (outside o r) = r.below

    -- no two variables have the same
    level-once : (v w : ℕ) → Levelled v → Levelled w → get_or levels v 0 ≡ get_or levels w 0 → v ≡ w
    level-once v w (inside i h q f) (inside j k p g) d =
        let s : i ≡ j = b.once i j (omega arith) (omega arith) (sym f ∙ d ∙ g) in
        sym q ∙ ap (λ x. get_or ids x 0) s ∙ p
    level-once v w (inside i h q f) (outside o r) d = absurd (r.free i (omega arith) (sym f ∙ d))
    level-once v w (outside o r) (inside j k p g) d = absurd (r.free j (omega arith) (sym g ∙ sym d))
    level-once v w (outside o r) (outside u t) d =
        outside-unique v w ids o u (sym r.in_order ∙ ap (λ x. outside_below x permids) d ∙ t.in_order)

    -- they are a permutation of the levels
    pub levels-permute : PermidsAllowed nvars levels
    levels-permute = record {
      below = λ v h. level-below v (levelled v (omega (arith, l.as_many)));
      once = λ v w h k d. level-once v w (levelled v (omega (arith, l.as_many))) (levelled w (omega (arith, l.as_many))) d;
    }
