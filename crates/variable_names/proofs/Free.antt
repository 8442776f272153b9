-- Laws of the seats of names, as a loop over the variables finds them.
use mathlib.Core.Path.{◌≡◌, refl, sym, ap, ◌∙◌}
use mathlib.Core.List.{List, [], ◌∷◌}
use Prim.Native.Nat.{ℕ, zero, suc, ◌+◌, ◌-◌, ◌≤◌, ◌<◌}
use native.Mathlib.Numerals.{add-one}
use native.Mathlib.Omega.{arith}
use mir.Val.{Fits}
use mir.Syntax.{w64}
use lib.ListN.{length, get_or, drop, set, replicate, length-replicate, get_or-replicate}
use lib.Seq.{get_or-drop, drop-drop}
use Rattle.codes.specs.Lent.{laid}
use Rattle.codes.specs.Limits.{var_limit}
use Rattle.seats.specs.Seats.{seat_of}
use Rattle.variable_names.specs.Names.{free_from, ordered_from, ordered_seats, supp_from, supp_seats}
use Rattle.seats.proofs.Seating.{seat-most}
use Rattle.variable_names.proofs.Gathered.{Laying, laying-start, laying-more, laying-rest, laying-end}

-- a list of zeros is as many zeros as it is long
pub zeros-whole : (n : ℕ) → replicate {A = ℕ} n 0 ≡ replicate (length (replicate {A = ℕ} n 0)) 0
zeros-whole n = ap (λ k. replicate {A = ℕ} k 0) (sym (length-replicate {A = ℕ} n 0))

-- a seat in a list of few entries is a position
pub seat-fits : (x : ℕ) (l : List ℕ) {k : ℕ} → k ≡ seat_of x l → length l ≤ var_limit → Fits w64 k
seat-fits x l e h = omega (arith, seat-most x l)

-- the entries that lie over the front of zeros, as far as those reach
laid-zeros : (es : List ℕ) (m i : ℕ) → i < m → get_or (laid es (replicate m 0)) i 0 ≡ get_or es i 0
unfolding laid
laid-zeros [] m i h = get_or-replicate m i 0 0 h
laid-zeros (e ∷ es) zero i h = absurd (omega arith)
laid-zeros (e ∷ es) (suc m) zero h = refl
laid-zeros (e ∷ es) (suc m) (suc i) h = laid-zeros es m i (omega arith)

-- a list that is entries over the front of zeros, at a position that the zeros reach
pub get_d-laid-zeros : (es : List ℕ) (m : ℕ) {l : List ℕ} → l ≡ laid es (replicate m 0) → (i : ℕ) → i < m → get_or l i 0 ≡ get_or es i 0
get_d-laid-zeros es m e i h = ap (λ t. get_or t i 0) e ∙ laid-zeros es m i h

-- the positions that are no permids, laid over the front of zeros
pub free-entry : (permids : List ℕ) {j k m : ℕ} {free zs : List ℕ} → j ≡ k → zs ≡ replicate m 0 → free ≡ laid (free_from k 0 permids) zs
    → (i : ℕ) → i < m → get_or free i 0 ≡ get_or (free_from j 0 permids) i 0
free-entry permids {j} {k} {m} q z e i h =
    get_d-laid-zeros (free_from k 0 permids) m (e ∙ ap (laid (free_from k 0 permids)) z) i h ∙ ap (λ n. get_or (free_from n 0 permids) i 0) (sym q)

-- one turn over the positions
module _ (nvars p : ℕ) (permids : List ℕ) (h : p < nvars) where
  -- a position that is no permid is free
  free_one : seat_of p permids ≡ 0 → free_from (nvars - p) p permids ≡ (p + 1) ∷ free_from (nvars - (p + 1)) (p + 1) permids
  unfolding free_from
  free_one e = let s : nvars - p ≡ suc (nvars - (p + 1)) = omega arith in rw (s, e, free_from, add-one)

  -- a permid isn't
  free-none : (seat_of p permids ≡ 0 → ⊥) → free_from (nvars - p) p permids ≡ free_from (nvars - (p + 1)) (p + 1) permids
  unfolding free_from
  free-none n =
      let s : nvars - p ≡ suc (nvars - (p + 1)) = omega arith in
      let e : seat_of p permids ≡ suc (seat_of p permids - 1) = omega (arith, n) in
      rw (s, e, free_from)

-- the positions that are no permids, of which those below p are found, n of them
pub record Freeing (nvars : ℕ) (permids old dst : List ℕ) (n p : ℕ) : Type 0 where
  pub laying : Laying (free_from nvars 0 permids) old dst n (free_from (nvars - p) p permids)
  pub few : n ≤ p
  pub within : p ≤ nvars

-- no position is passed yet
pub freeing-start : (nvars : ℕ) (permids old : List ℕ) → Freeing nvars permids old old 0 0
freeing-start nvars permids old =
    let z : nvars - 0 ≡ nvars = omega arith in
    record { laying = rw z (laying-start _ old); few = omega arith; within = omega arith }

module _ {nvars : ℕ} {permids old dst : List ℕ} {n p : ℕ} (f : Freeing nvars permids old dst n p) where
  -- a position whose seat k says that it is no permid
  pub freeing-one : {k : ℕ} → p < nvars → k ≡ seat_of p permids → k ≡ 0 → Freeing nvars permids old (set dst n (p + 1)) (n + 1) (p + 1)
  freeing-one h e z =
      record {
        laying = laying-more f.laying (p + 1) _ (free_one nvars p permids h (sym e ∙ z));
        few = omega (arith, f.few);
        within = omega arith;
      }

  -- a position that is a permid
  pub freeing-none : {k : ℕ} → p < nvars → k ≡ seat_of p permids → (k ≡ 0 → ⊥) → Freeing nvars permids old dst n (p + 1)
  freeing-none h e z =
      record {
        laying = laying-rest f.laying _ (free-none nvars p permids h (λ q. z (e ∙ q)));
        few = omega (arith, f.few);
        within = omega arith;
      }

  -- all positions are passed
  pub freeing-end : nvars ≤ p → dst ≡ laid (free_from nvars 0 permids) old
  unfolding free_from
  freeing-end h = let z : nvars - p ≡ 0 = omega arith in laying-end f.laying (rw z)

-- one turn over the variables
module _ (nvars v : ℕ) (ids permids free : List ℕ) (h : v < nvars) where
  -- a variable that is no id has the next free position
  ordered-free : seat_of v ids ≡ 0
      → ordered_from (nvars - v) v ids permids free ≡ get_or free 0 0 ∷ ordered_from (nvars - (v + 1)) (v + 1) ids permids (drop 1 free)
  unfolding ordered_from
  ordered-free e = let s : nvars - v ≡ suc (nvars - (v + 1)) = omega arith in rw (s, e, ordered_from)

  -- an id has the position of its permid
  ordered-seated : (i : ℕ) → seat_of v ids ≡ suc i
      → ordered_from (nvars - v) v ids permids free ≡ (get_or permids i 0 + 1) ∷ ordered_from (nvars - (v + 1)) (v + 1) ids permids free
  unfolding ordered_from
  ordered-seated i e = let s : nvars - v ≡ suc (nvars - (v + 1)) = omega arith in rw (s, e, ordered_from, add-one (get_or permids i 0))

-- a variable has its seat among the ids
supp-one : (nvars v : ℕ) (ids : List ℕ) → v < nvars → supp_from (nvars - v) v ids ≡ seat_of v ids ∷ supp_from (nvars - (v + 1)) (v + 1) ids
unfolding supp_from
supp-one nvars v ids h = let s : nvars - v ≡ suc (nvars - (v + 1)) = omega arith in rw s

-- the seats in `.orderedvarnames` of the variables below v, of which n are none of the ids
pub record Ordering (nvars : ℕ) (ids permids old dst : List ℕ) (n v : ℕ) : Type 0 where
  pub laying : Laying (ordered_seats nvars ids permids) old dst v (ordered_from (nvars - v) v ids permids (drop n (free_from nvars 0 permids)))
  pub few : n ≤ v
  pub within : v ≤ nvars

-- no variable is passed yet
pub ordering-start : (nvars : ℕ) (ids permids old : List ℕ) → Ordering nvars ids permids old old 0 0
unfolding ordered_seats
ordering-start nvars ids permids old =
    let z : nvars - 0 ≡ nvars = omega arith in
    record { laying = rw z (laying-start _ old); few = omega arith; within = omega arith }

module _ {nvars : ℕ} {ids permids old dst : List ℕ} {n v : ℕ} (o : Ordering nvars ids permids old dst n v) where
  -- a variable whose seat k says that it is no id has the next free position
  pub ordering-free : {k x : ℕ} → v < nvars → k ≡ seat_of v ids → k ≡ 0 → x ≡ get_or (free_from nvars 0 permids) n 0
      → Ordering nvars ids permids old (set dst v x) (n + 1) (v + 1)
  ordering-free {x = x} h e z q =
      let free = free_from nvars 0 permids in
      let m : n + 0 ≡ n = omega arith in
      record {
        laying =
            laying-more o.laying x _
            (ordered-free nvars v ids permids (drop n free) h (sym e ∙ z) ∙ rw (q, get_or-drop n free 0 0, drop-drop 1 n free, m));
        few = omega (arith, o.few);
        within = omega arith;
      }

  -- an id has the position of its permid
  pub ordering-seated : {k x : ℕ} → v < nvars → k ≡ seat_of v ids → (k ≡ 0 → ⊥) → x ≡ get_or permids (k - 1) 0
      → Ordering nvars ids permids old (set dst v (x + 1)) n (v + 1)
  ordering-seated {k} {x} h e z q =
      let s : k ≡ suc (k - 1) = omega (arith, z) in
      record {
        laying = laying-more o.laying (x + 1) _ (rw q (ordered-seated nvars v ids permids _ h (k - 1) (sym e ∙ s)));
        few = omega (arith, o.few);
        within = omega arith;
      }

  -- all variables are passed
  pub ordering-end : nvars ≤ v → dst ≡ laid (ordered_seats nvars ids permids) old
  unfolding ordered_from
  ordering-end h = let z : nvars - v ≡ 0 = omega arith in laying-end o.laying (rw z)

-- the seats in `.suppvarnames` of the variables below v
pub record Supporting (nvars : ℕ) (ids old dst : List ℕ) (v : ℕ) : Type 0 where
  pub laying : Laying (supp_seats nvars ids) old dst v (supp_from (nvars - v) v ids)
  pub within : v ≤ nvars

-- no variable is passed yet
pub supporting-start : (nvars : ℕ) (ids old : List ℕ) → Supporting nvars ids old old 0
unfolding supp_seats
supporting-start nvars ids old =
    let z : nvars - 0 ≡ nvars = omega arith in
    record { laying = rw z (laying-start _ old); within = omega arith }

module _ {nvars : ℕ} {ids old dst : List ℕ} {v : ℕ} (s : Supporting nvars ids old dst v) where
  -- one variable more
  pub supporting-more : {x : ℕ} → v < nvars → x ≡ seat_of v ids → Supporting nvars ids old (set dst v x) (v + 1)
  supporting-more {x} h q = record { laying = laying-more s.laying x _ (rw q (supp-one nvars v ids h)); within = omega arith }

  -- all variables are passed
  pub supporting-end : nvars ≤ v → dst ≡ laid (supp_seats nvars ids) old
  unfolding supp_from
  supporting-end h = let z : nvars - v ≡ 0 = omega arith in laying-end s.laying (rw z)

-- of n variables there are n seats
length-ordered : (n v : ℕ) (ids permids free : List ℕ) → length (ordered_from n v ids permids free) ≡ n
unfolding ordered_from
length-ordered zero v ids permids free = refl
length-ordered (suc n) v ids permids free = go (length-ordered n (v + 1) ids permids) (seat_of v ids)
  where
    go : ((fs : List ℕ) → length (ordered_from n (v + 1) ids permids fs) ≡ n) → (k : ℕ) → length {A = ℕ}
        (elim k as (λ x. List ℕ) [
          | suc i ↦ suc (get_or permids i 0) ∷ ordered_from n (v + 1) ids permids free
          | zero ↦ get_or free 0 0 ∷ ordered_from n (v + 1) ids permids (drop 1 free)
        ]) ≡ suc n
    go ih zero = ap suc (ih (drop 1 free))
    go ih (suc i) = ap suc (ih free)

-- there are as many seats as variables
pub length-ordered_seats : (nvars : ℕ) (ids permids : List ℕ) → length (ordered_seats nvars ids permids) ≡ nvars
unfolding ordered_seats
length-ordered_seats nvars ids permids = length-ordered nvars 0 ids permids _

-- of n variables there are n seats
length-supp : (n v : ℕ) (ids : List ℕ) → length (supp_from n v ids) ≡ n
unfolding supp_from
length-supp zero v ids = refl
length-supp (suc n) v ids = ap suc (length-supp n (v + 1) ids)

-- there are as many seats as variables
pub length-supp_seats : (nvars : ℕ) (ids : List ℕ) → length (supp_seats nvars ids) ≡ nvars
unfolding supp_seats
length-supp_seats nvars ids = length-supp nvars 0 ids
