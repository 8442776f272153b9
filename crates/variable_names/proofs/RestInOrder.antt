-- The names of variables: support variables by permid and the rest in order.
use mathlib.Core.Path.{◌≡◌, refl, sym, ap, ◌∙◌}
use mathlib.Core.Bool.{true}
use mathlib.Core.List.{List, [], ◌∷◌, map}
use Prim.Native.Nat.{ℕ, zero, suc, ◌+◌, ◌≤◌, ◌<◌}
use native.Mathlib.Numerals.{add-one}
use native.Mathlib.Omega.{arith}
use lib.ListN.{length, get_or, drop, length-map, get_or-map}
use lib.Seq.{get_or-drop}
use Rattle.read_text.specs.Text.{Place}
use Rattle.seats.specs.Seats.{seat_of}
use Rattle.seats.specs.Ordered.{distinct}
use Rattle.seats.specs.Outside.{Outside, outside_below}
use Rattle.seats.proofs.NumberSeats.{seat-entry}
use Rattle.seats.proofs.OrderedLists.{distinct-once, ascends-once}
use Rattle.seats.proofs.Counting.{none_below, unseated-outside, outside-unseated, outside-counts, entry-counts-not, outside-fewer, outside-unique, outside-all}
use Rattle.support.specs.Support.{IdsAllowed, PermidsAllowed}
use Rattle.support.proofs.SupportAllowed.{allowed-below}
use Rattle.variable_names.specs.Names.{empty_name, free_from, ordered_from, ordered_seats, supp_from, supp_seats, name_at_seat, variable_names}
use Rattle.variable_names.specs.Rest.{RestPosition, NamesByPermid, NamesOfSupport, NamesSaid, by_varnames, by_ordered, by_support, unnamed}
use Rattle.variable_names.proofs.Free.{length-ordered_seats, length-supp_seats}

-- of the numbers below n + p, those from p on
reach : (p n : ℕ) (l : List ℕ) → outside_below (p + 1 + n) l ≡ outside_below (p + suc n) l
reach p n l = let e : p + 1 + n ≡ p + suc n = omega arith in rw e

-- one number more
reach-one : (p : ℕ) (l : List ℕ) → outside_below (p + 1) l ≡ outside_below (suc p) l
reach-one p l = rw (add-one p)

module _ (permids : List ℕ) where
  -- a position that is no permid, in front of the others
  free_more : (n p : ℕ) → seat_of p permids ≡ 0 → free_from (suc n) p permids ≡ suc p ∷ free_from n (p + 1) permids
  unfolding free_from
  free_more n p e = rw (free_from, e)

  -- a permid is passed over
  free-skip : (n p i : ℕ) → seat_of p permids ≡ suc i → free_from (suc n) p permids ≡ free_from n (p + 1) permids
  unfolding free_from
  free-skip n p i e = rw (free_from, e)

  -- there are as many as the positions that are no permids
  free-count : (n p : ℕ) → length (free_from n p permids) + outside_below p permids ≡ outside_below (p + n) permids
  unfolding free_from
  free-count zero p = let e : p + 0 ≡ p = omega arith in rw e (omega arith)
  free-count (suc n) p = go (free-count n (p + 1)) (seat_of p permids) refl
    where
      go : length (free_from n (p + 1) permids) + outside_below (p + 1) permids ≡ outside_below (p + 1 + n) permids → (s : ℕ) → seat_of p permids ≡ s
          → length (free_from (suc n) p permids) + outside_below p permids ≡ outside_below (p + suc n) permids
      go q zero e = rw (free_more n p e) (omega (arith, reach p n permids, reach-one p permids, outside-counts p permids e))
      go q (suc i) e =
          rw (free-skip n p i e) (omega (arith, reach p n permids, reach-one p permids, entry-counts-not p permids (λ z. omega arith)))

  -- the m-th of the positions from p on, n of them, that are no permids
  record FreeAt (n p m : ℕ) : Type 0 where
    position : ℕ
    there : get_or (free_from n p permids) m 0 ≡ suc position
    below : position < p + n
    unseated : seat_of position permids ≡ 0
    rank : outside_below position permids ≡ m + outside_below p permids

  -- it is there
  free-at : (n p m : ℕ) → m < length (free_from n p permids) → FreeAt n p m
  unfolding free_from
  free-at zero p m h = absurd (omega arith)
  free-at (suc n) p m h = go (free-at n (p + 1)) (seat_of p permids) refl m h
    where
      -- the first, or a later one
      first : ((m : ℕ) → m < length (free_from n (p + 1) permids) → FreeAt n (p + 1) m) → seat_of p permids ≡ 0
          → (m : ℕ) → m < length (suc p ∷ free_from n (p + 1) permids) → FreeAt (suc n) p m
      first f e zero h = record {
        position = p;
        there = rw (free_more n p e) refl;
        below = omega arith;
        unseated = e;
        rank = omega arith;
      }
      first f e (suc m) h =
          let r = f m (omega arith) in
          record {
            position = r.position;
            there = ap (λ l. get_or l (suc m) 0) (free_more n p e) ∙ r.there;
            below = omega (arith, r.below);
            unseated = r.unseated;
            rank = omega (arith, r.rank, reach-one p permids, outside-counts p permids e);
          }

      go : ((m : ℕ) → m < length (free_from n (p + 1) permids) → FreeAt n (p + 1) m) → (s : ℕ) → seat_of p permids ≡ s
          → (m : ℕ) → m < length (free_from (suc n) p permids) → FreeAt (suc n) p m
      go f zero e m h = first f e m (omega (arith, ap length (free_more n p e)))
      go f (suc i) e m h =
          let r = f m (omega (arith, ap length (free-skip n p i e))) in
          record {
            position = r.position;
            there = ap (λ l. get_or l m 0) (free-skip n p i e) ∙ r.there;
            below = omega (arith, r.below);
            unseated = r.unseated;
            rank = omega (arith, r.rank, reach-one p permids, entry-counts-not p permids (λ z. omega arith));
          }

module _ (ids permids : List ℕ) where
  -- the seat in `.orderedvarnames` of a variable among the ids
  pub ordered-seat : (k w i j : ℕ) (free : List ℕ) → i < k → seat_of (w + i) ids ≡ suc j
      → get_or (ordered_from k w ids permids free) i 0 ≡ suc (get_or permids j 0)
  unfolding ordered_from
  ordered-seat zero w i j free h e = absurd (omega arith)
  ordered-seat (suc k) w zero j free h e =
      let z : w + 0 ≡ w = omega arith in
      let s : seat_of w ids ≡ suc j = rw z at e in
      rw (get_or, s)
  ordered-seat (suc k) w (suc i) j free h e =
      let z : w + suc i ≡ w + 1 + i = omega arith in
      go (seat_of w ids) (λ free. ordered-seat k (w + 1) i j free (omega arith) (rw z at e))
    where
      go : (s : ℕ) → ((free : List ℕ) → get_or (ordered_from k (w + 1) ids permids free) i 0 ≡ suc (get_or permids j 0))
          → get_or {A = ℕ} (elim s as (λ x. List ℕ) [
            | suc i ↦ suc (get_or permids i 0) ∷ ordered_from k (w + 1) ids permids free
            | zero ↦ get_or free 0 0 ∷ ordered_from k (w + 1) ids permids (drop 1 free)
          ]) (suc i) 0 ≡ suc (get_or permids j 0)
      go zero later = later (drop 1 free)
      go (suc s) later = later free

  -- a variable that is no id takes the next free position
  rest_more : (n v : ℕ) (free : List ℕ) → seat_of v ids ≡ 0
      → ordered_from (suc n) v ids permids free ≡ get_or free 0 0 ∷ ordered_from n (v + 1) ids permids (drop 1 free)
  unfolding ordered_from
  rest_more n v free e = rw (ordered_from, e)

  -- an id takes none
  rest-none : (n v i : ℕ) (free : List ℕ) → seat_of v ids ≡ suc i
      → ordered_from (suc n) v ids permids free ≡ suc (get_or permids i 0) ∷ ordered_from n (v + 1) ids permids free
  unfolding ordered_from
  rest-none n v i free e = rw (ordered_from, e)

  -- the seat of a variable that is none: of the free positions the one before which there are as many as variables before it, from v on
  rest-seat : (n v k m : ℕ) (free : List ℕ) → k < n → seat_of (v + k) ids ≡ 0 → outside_below (v + k) ids ≡ m + outside_below v ids
      → get_or (ordered_from n v ids permids free) k 0 ≡ get_or free m 0
  rest-seat zero v k m free h e q = absurd (omega arith)
  rest-seat (suc n) v zero m free h e q =
      let z : v + 0 ≡ v = omega arith in
      let y : m ≡ 0 = omega (arith, ap (λ x. outside_below x ids) z) in
      rw (rest_more n v free (rw z at e), y)
  rest-seat (suc n) v (suc k) m free h e q =
      let z : v + suc k ≡ v + 1 + k = omega arith in
      go (λ j free. rest-seat n (v + 1) k j free (omega arith) (rw z at e)) (seat_of v ids) refl
    where
      go : ((j : ℕ) (free : List ℕ) → outside_below (v + 1 + k) ids ≡ j + outside_below (v + 1) ids
          → get_or (ordered_from n (v + 1) ids permids free) k 0 ≡ get_or free j 0)
          → (s : ℕ) → seat_of v ids ≡ s → get_or (ordered_from (suc n) v ids permids free) (suc k) 0 ≡ get_or free m 0
      go f zero s = later m (omega (arith, outside-fewer v (v + suc k) ids s (omega arith))) q
        where
          later : (m : ℕ) → 1 ≤ m → outside_below (v + suc k) ids ≡ m + outside_below v ids
              → get_or (ordered_from (suc n) v ids permids free) (suc k) 0 ≡ get_or free m 0
          later zero h q = absurd (omega arith)
          later (suc j) h q =
              let y : 1 + j ≡ suc j = omega arith in
              rw (rest_more n v free s)
              (f j (drop 1 free) (omega (arith, reach v k ids, reach-one v ids, outside-counts v ids s)) ∙ get_or-drop 1 free j 0 ∙ rw y)
      go f (suc i) s =
          rw (rest-none n v i free s) (f m free (omega (arith, reach v k ids, reach-one v ids, entry-counts-not v ids (λ z. omega arith))))

-- the seat in `.suppvarnames` of a variable is its seat among the ids
supp-seat : (ids : List ℕ) (n v k : ℕ) → k < n → get_or (supp_from n v ids) k 0 ≡ seat_of (v + k) ids
unfolding supp_from
supp-seat ids zero v k h = absurd (omega arith)
supp-seat ids (suc n) v zero h = let z : v + 0 ≡ v = omega arith in rw z
supp-seat ids (suc n) v (suc k) h = let z : v + 1 + k ≡ v + suc k = omega arith in supp-seat ids n (v + 1) k (omega arith) ∙ rw z

module _ (nvars : ℕ) (ids permids : List ℕ) where
  -- Positions of variables in `.orderedvarnames`, counted from 1: 'support variables by permid and the rest in order'.
  pub record SeatsByPermid (seats : List ℕ) : Type 0 where
    pub as_many : length seats ≡ nvars
    pub support : (i : ℕ) → i < length ids → get_or seats (get_or ids i 0) 0 ≡ suc (get_or permids i 0)
    pub rest : (v : ℕ) → v < nvars → Outside v ids → (p : ℕ) × (RestPosition nvars ids permids v p × (get_or seats v 0 ≡ suc p))

  module _ (a : IdsAllowed nvars ids) (b : PermidsAllowed nvars permids) (e : length ids ≡ length permids) where
    -- no id stands twice
    ids-distinct : distinct ids ≡ true
    ids-distinct = (distinct-once ids).1 (ascends-once ids a.ascends)

    -- a variable outside the support takes a free position: there are as many of these as of such variables
    rest-there : (v : ℕ) → v < nvars → Outside v ids → outside_below v ids < length (free_from nvars 0 permids)
    rest-there v h o =
        let z : 0 + nvars ≡ nvars = omega arith in
        omega (
          arith,
          outside-fewer v nvars ids (outside-unseated v ids o) h,
          outside-all nvars ids ids-distinct (allowed-below nvars ids a),
          outside-all nvars permids ((distinct-once permids).1 b.once) b.below,
          free-count permids nvars 0,
          none_below permids,
          ap (λ n. outside_below n permids) z,
        )

    -- the positions of the variables' names
    pub seats-by-permid : SeatsByPermid (ordered_seats nvars ids permids)
    unfolding ordered_seats
    seats-by-permid = record {
      as_many = length-ordered_seats nvars ids permids;
      support = λ i h.
          let v = get_or ids i 0 in
          let z : 0 + v ≡ v = omega arith in
          let s : seat_of v ids ≡ suc i = seat-entry ids ids-distinct i h ∙ add-one i in
          ordered-seat ids permids nvars 0 v i (free_from nvars 0 permids) (allowed-below nvars ids a i h) (rw z s);
      rest = λ v h o. rest v h o (free-at permids nvars 0 (outside_below v ids) (rest-there v h o));
    }
      where
        rest : (v : ℕ) → v < nvars → Outside v ids → FreeAt permids nvars 0 (outside_below v ids)
            → (p : ℕ) × (RestPosition nvars ids permids v p × (get_or (ordered_from nvars 0 ids permids (free_from nvars 0 permids)) v 0 ≡ suc p))
        rest v h o f =
            let z : 0 + v ≡ v = omega arith in
            let s : seat_of (0 + v) ids ≡ 0 = rw z (outside-unseated v ids o) in
            let q : outside_below (0 + v) ids ≡ outside_below v ids + outside_below 0 ids = rw z (omega (arith, none_below ids)) in (
              f.position,
              (
                record {
                  below = omega (arith, f.below);
                  free = unseated-outside f.position permids f.unseated;
                  in_order = omega (arith, f.rank, none_below permids);
                },
                rest-seat ids permids nvars 0 v (outside_below v ids) (free_from nvars 0 permids) h s q ∙ f.there,
              ),
            )

    -- `.orderedvarnames`, where they are given and `.varnames` aren't: 'support variables by permid and the rest in order'
    pub names-by-permid : (ordered supp : List Place) → 1 ≤ length ordered
        → NamesByPermid nvars ids permids ordered (variable_names nvars ids permids [] ordered supp)
    unfolding variable_names
    names-by-permid [] supp h = absurd (omega arith)
    names-by-permid (n ∷ ordered) supp h =
        let seats = ordered_seats nvars ids permids in
        record {
          as_many = length-map seats (name_at_seat (n ∷ ordered)) ∙ length-ordered_seats nvars ids permids;
          support = λ i k. at (get_or ids i 0) (get_or permids i 0) (seats-by-permid.support i k);
          rest = λ v k o. let r = seats-by-permid.rest v k o in (r.0, (r.1.0, at v r.0 r.1.1));
        }
      where
        at : (v p : ℕ) → get_or (ordered_seats nvars ids permids) v 0 ≡ suc p
            → get_or (map (name_at_seat (n ∷ ordered)) (ordered_seats nvars ids permids)) v empty_name ≡ get_or (n ∷ ordered) p empty_name
        at v p q = get_or-map (name_at_seat (n ∷ ordered)) (ordered_seats nvars ids permids) v 0 ∙ ap (name_at_seat (n ∷ ordered)) q

    -- `.suppvarnames`, where they alone are given: 'with empty names elsewhere'
    pub names-of-support : (supp : List Place) → 1 ≤ length supp → NamesOfSupport nvars ids supp (variable_names nvars ids permids [] [] supp)
    unfolding variable_names supp_seats
    names-of-support [] h = absurd (omega arith)
    names-of-support (n ∷ supp) h = record {
      as_many = length-map (supp_from nvars 0 ids) (name_at_seat (n ∷ supp)) ∙ length-supp_seats nvars ids;
      support = λ i k.
          at (get_or ids i 0) (suc i) (allowed-below nvars ids a i k) (seat-entry ids ids-distinct i k ∙ add-one i);
      elsewhere = λ v k o. at v 0 k (outside-unseated v ids o);
    }
      where
        at : (v s : ℕ) → v < nvars → seat_of v ids ≡ s
            → get_or (map (name_at_seat (n ∷ supp)) (supp_from nvars 0 ids)) v empty_name ≡ name_at_seat (n ∷ supp) s
        at v s k q =
            let z : 0 + v ≡ v = omega arith in
            get_or-map (name_at_seat (n ∷ supp)) (supp_from nvars 0 ids) v 0
            ∙ ap (name_at_seat (n ∷ supp)) (supp-seat ids nvars 0 v k ∙ ap (λ x. seat_of x ids) z ∙ q)

    -- The names of variables are what the three lists say.
    pub names_said : (varnames ordered supp : List Place)
        → NamesSaid nvars ids permids varnames ordered supp (variable_names nvars ids permids varnames ordered supp)
    unfolding variable_names
    names_said (n ∷ varnames) ordered supp = let h : 1 ≤ length (n ∷ varnames) = omega arith in by_varnames h
    names_said [] (n ∷ ordered) supp = let h : 1 ≤ length (n ∷ ordered) = omega arith in by_ordered h (names-by-permid (n ∷ ordered) supp h)
    names_said [] [] (n ∷ supp) = let h : 1 ≤ length (n ∷ supp) = omega arith in by_support h (names-of-support (n ∷ supp) h)
    names_said [] [] [] = unnamed

  -- there is one such position for a variable
  pub rest-unique : (v p q : ℕ) → RestPosition nvars ids permids v p → RestPosition nvars ids permids v q → p ≡ q
  rest-unique v p q r s = outside-unique p q permids r.free s.free (r.in_order ∙ sym s.in_order)
