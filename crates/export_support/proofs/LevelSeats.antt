-- The seats of levels in the support, as two loops find them: one marks the levels, the other counts the marks.
use mathlib.Core.Path.{◌≡◌, refl, sym, ap, ◌∙◌}
use mathlib.Core.Bool.{Bool, true, false, cond}
use mathlib.Core.List.{List, [], ◌∷◌, ◌++◌, append-nil}
use Prim.Native.Nat.{ℕ, zero, suc, ◌+◌, ◌-◌, ◌≤◌, ◌<◌}
use native.Mathlib.Numerals.{add-one}
use native.Mathlib.Nat.{add-zero, zero-add, suc-add}
use native.Mathlib.Omega.{arith}
use native.Mathlib.Decide.{ℕ_discrete, dec_lt}
use lib.ListN.{length, get_or, drop, set, replicate, length-set, get_or-replicate, length-append, drop_of_length-le}
use lib.Seq.{drop-cons, get_or-set_same, get_or-set_other}
use borrow.Author.Tests.{eq-eqb, ne_eqb}
use Rattle.store.specs.Store.{Store}
use Rattle.store.specs.Rules.{depth}
use Rattle.seats.specs.Seats.{seat_of, Seats}
use Rattle.reached.specs.Meet.{is_in}
use Rattle.numbering.specs.Numbering.{at_depth}
use Rattle.numbering.specs.Support.{some, support_from}
use Rattle.numbering.specs.Depths.{Marked}
use Rattle.reached.proofs.EntrySeats.{out-seat, seat-after}
use Rattle.export_support.proofs.SupportLevels.{some-cons, from-high, from_in}

module _ (σ : Store) (levels : ℕ) where
  -- the support with one node more has that node's level ..
  level-here : (n : ℕ) (ns : List ℕ) → depth σ n < levels → is_in (depth σ n) (support_from levels 0 σ (n ∷ ns)) ≡ true
  level-here n ns h =
      from_in σ (n ∷ ns) (depth σ n) levels 0 (omega arith) (omega arith) ∙ some-cons σ (depth σ n) n ns
      ∙ rw (eq-eqb (depth σ n) (depth σ n) refl)

  -- .. and no other that it hadn't
  level-other : (l n : ℕ) (ns : List ℕ) → (l < levels → depth σ n ≡ l → ⊥)
      → is_in l (support_from levels 0 σ (n ∷ ns)) ≡ is_in l (support_from levels 0 σ ns)
  level-other l n ns h = go (dec_lt l levels)
    where
      go : Dec (l < levels) → is_in l (support_from levels 0 σ (n ∷ ns)) ≡ is_in l (support_from levels 0 σ ns)
      go (yes p) =
          from_in σ (n ∷ ns) l levels 0 (omega arith) (omega arith) ∙ some-cons σ l n ns ∙ rw (ne_eqb (depth σ n) l (h p))
          (sym (from_in σ ns l levels 0 (omega arith) (omega arith)))
      go (no p) =
          from-high σ (n ∷ ns) l levels 0 (omega (arith, p)) ∙ sym (from-high σ ns l levels 0 (omega (arith, p)))

  -- with no nodes it has none
  level-none : (l : ℕ) → is_in l (support_from levels 0 σ []) ≡ false
  unfolding at_depth
  level-none l = go (dec_lt l levels)
    where
      go : Dec (l < levels) → is_in l (support_from levels 0 σ []) ≡ false
      go (yes p) = from_in σ [] l levels 0 (omega arith) (omega arith)
      go (no p) = from-high σ [] l levels 0 (omega (arith, p))

-- the levels of the nodes before the i-th are marked: with those of the others they are all
pub record Marking (σ : Store) (levels : ℕ) (ns : List ℕ) (long : ℕ) (seats : List ℕ) (i : ℕ) : Type 0 where
  pub kept : length seats ≡ long
  pub marks : (l : ℕ) → l < length seats
      → cond (is_in l (support_from levels 0 σ (drop i ns))) 1 (get_or seats l 0) ≡ cond (is_in l (support_from levels 0 σ ns)) 1 0

module _ (σ : Store) (levels : ℕ) (ns seats : List ℕ) where
  -- at first none
  pub marking-start : seats ≡ replicate (length seats) 0 → Marking σ levels ns (length seats) seats 0
  marking-start z = record {
    kept = refl;
    marks = λ l h. rw (ap (λ t. get_or t l 0) z ∙ get_or-replicate (length seats) l 0 0 h);
  }

  module _ (long i : ℕ) (m : Marking σ levels ns long seats i) where
    -- in the end all
    pub marking-end : length ns ≤ i → Marked (support_from levels 0 σ ns) seats
    marking-end h l k = rw (drop_of_length-le ns h, level-none σ levels l) at (m.marks l k)

    module _ (h : i < length ns) (d : ℕ) (e : d ≡ depth σ (get_or ns i 0)) where
      -- the marks of a list without the node at position i
      abbrev Next : List ℕ → ℕ → Type 0
      Next table l = cond (is_in l (support_from levels 0 σ (drop (i + 1) ns))) 1 (get_or table l 0) ≡ cond (is_in l (support_from levels 0 σ ns)) 1 0

      -- a level that isn't that node's
      mark-other : (l : ℕ) → l < length seats → (l < levels → d ≡ l → ⊥) → Next seats l
      mark-other l k f =
          rw (drop-cons ns i 0 h, level-other σ levels l (get_or ns i 0) (drop (suc i) ns) (λ p q. f p (e ∙ q)), ← add-one i) at (m.marks l k)

      -- an inner node: its level gets a mark
      pub marking-inner : d < levels → Marking σ levels ns long (set seats d 1) (i + 1)
      marking-inner low = record {
        kept = length-set seats d 1 ∙ m.kept;
        marks = λ l k. go l (rw (length-set seats d 1) at k) (ℕ_discrete l d);
      }
        where
          marked : (b : Bool) → ◌≡◌ {A = ℕ} (cond b 1 1) 1
          marked true = refl
          marked false = refl

          here : is_in d (support_from levels 0 σ (drop i ns)) ≡ true
          here = rw (drop-cons ns i 0 h, e) (level-here σ levels (get_or ns i 0) (drop (suc i) ns) (omega arith))

          go : (l : ℕ) → l < length seats → Dec (l ≡ d) → Next (set seats d 1) l
          go l k (yes q) =
              rw (q, get_or-set_same seats d 1 0 (omega arith), marked (is_in d (support_from levels 0 σ (drop (i + 1) ns))))
              (rw here at (m.marks d (omega arith)))
          go l k (no q) = rw (get_or-set_other seats d l 1 0 q) (mark-other l k (λ p r. q (sym r)))

      -- the terminal
      pub marking-terminal : levels ≤ d → Marking σ levels ns long seats (i + 1)
      marking-terminal low = record { kept = m.kept; marks = λ l k. mark-other l k (λ p q. omega arith) }

module _ (σ : Store) (ns : List ℕ) where
  -- the levels of two ranges, one after the other
  from-split : (j k l : ℕ) → support_from (j + k) l σ ns ≡ support_from j l σ ns ++ support_from k (l + j) σ ns
  unfolding support_from
  from-split zero k l = rw (zero-add k, add-zero l)
  from-split (suc j) k l = rw (suc-add j k) (go (some (at_depth σ l ns)) (from-split j k (l + 1)))
    where
      e : l + 1 + j ≡ l + suc j
      e = omega arith

      go : (b : Bool) → support_from (j + k) (l + 1) σ ns ≡ support_from j (l + 1) σ ns ++ support_from k (l + 1 + j) σ ns
          → cond b (l ∷ support_from (j + k) (l + 1) σ ns) (support_from (j + k) (l + 1) σ ns)
          ≡ cond b (l ∷ support_from j (l + 1) σ ns) (support_from j (l + 1) σ ns) ++ support_from k (l + suc j) σ ns
      go true ih = rw (← e) (ap (λ ls. l ∷ ls) ih)
      go false ih = rw (← e) ih

  -- one level more, where it has a node ..
  count-one : (l : ℕ) → some (at_depth σ l ns) ≡ true → length (support_from (l + 1) 0 σ ns) ≡ length (support_from l 0 σ ns) + 1
  unfolding support_from
  count-one l h = rw (from-split l 1 0, zero-add l, h) (length-append (support_from l 0 σ ns) (l ∷ []))

  -- .. and where not
  count_none : (l : ℕ) → some (at_depth σ l ns) ≡ false → length (support_from (l + 1) 0 σ ns) ≡ length (support_from l 0 σ ns)
  unfolding support_from
  count_none l h = rw (from-split l 1 0, zero-add l, h, append-nil (support_from l 0 σ ns))

  -- no more than there are levels
  count_most : (l k : ℕ) → length (support_from k l σ ns) ≤ k
  unfolding support_from
  count_most l zero = omega arith
  count_most l (suc k) = go (some (at_depth σ l ns)) (support_from k (l + 1) σ ns) (count_most (l + 1) k)
    where
      go : (b : Bool) (ls : List ℕ) → length ls ≤ k → length (cond b (l ∷ ls) ls) ≤ suc k
      go true ls h = omega arith
      go false ls h = omega arith

  -- the seat of a level is one more than the levels before it
  level-seat : (l levels : ℕ) → l < levels → some (at_depth σ l ns) ≡ true
      → seat_of l (support_from levels 0 σ ns) ≡ length (support_from l 0 σ ns) + 1
  unfolding support_from
  level-seat l levels h k =
      let e : levels ≡ l + suc (levels - (l + 1)) = omega arith in
      rw (e, from-split l (suc (levels - (l + 1))) 0, zero-add l, k, add-one (length (support_from l 0 σ ns)))
      (seat-after l (support_from l 0 σ ns) (support_from (levels - (l + 1)) (l + 1) σ ns) (from-high σ ns l l 0 (omega arith)))

-- the levels below l have their seats, and the others their marks
pub record Counting (σ : Store) (levels : ℕ) (ns : List ℕ) (long : ℕ) (seats : List ℕ) (seat l : ℕ) : Type 0 where
  pub kept : length seats ≡ long
  pub within : l ≤ levels
  pub count : seat ≡ length (support_from l 0 σ ns)
  pub below : (x : ℕ) → x < l → x < length seats → get_or seats x 0 ≡ seat_of x (support_from levels 0 σ ns)
  pub marks : (x : ℕ) → l ≤ x → x < length seats → get_or seats x 0 ≡ cond (is_in x (support_from levels 0 σ ns)) 1 0

module _ (σ : Store) (levels : ℕ) (ns seats : List ℕ) where
  -- at first none has its seat
  pub counting-start : (long : ℕ) → length seats ≡ long → Marked (support_from levels 0 σ ns) seats → Counting σ levels ns long seats 0 0
  unfolding support_from
  counting-start long e m = record {
    kept = e;
    within = omega arith;
    count = refl;
    below = λ x h. absurd (omega arith);
    marks = λ x h. m x;
  }

  module _ (long seat l : ℕ) (c : Counting σ levels ns long seats seat l) where
    -- in the end all have
    pub counting-end : levels ≤ l → (seat ≡ length (support_from levels 0 σ ns)) × Seats (support_from levels 0 σ ns) seats
    counting-end h =
        let e : l ≡ levels = omega (arith, c.within) in
        (c.count ∙ ap (λ k. length (support_from k 0 σ ns)) e, λ x k. go x k (dec_lt x levels))
      where
        go : (x : ℕ) → x < length seats → Dec (x < levels) → get_or seats x 0 ≡ seat_of x (support_from levels 0 σ ns)
        go x k (yes p) = c.below x (omega arith) k
        go x k (no p) =
            let q = from-high σ ns x levels 0 (omega (arith, p)) in
            c.marks x (omega (arith, p, c.within)) k ∙ rw q (sym (out-seat x (support_from levels 0 σ ns) q))

    -- there are no more than levels passed
    pub counting-most : seat ≤ l
    counting-most = omega (arith, c.count, count_most σ ns 0 l)

    module _ (h : l < levels) (k : l < length seats) where
      -- the mark of level l
      at_level : (b : Bool) → is_in l (support_from levels 0 σ ns) ≡ b → (get_or seats l 0 ≡ cond b 1 0) × (some (at_depth σ l ns) ≡ b)
      at_level b e = (c.marks l (omega arith) k ∙ rw e, sym (from_in σ ns l levels 0 (omega arith) (omega arith)) ∙ e)

      -- level l has one: it gets its seat
      pub counting-one : (get_or seats l 0 ≡ 0 → ⊥) → Counting σ levels ns long (set seats l (seat + 1)) (seat + 1) (l + 1)
      counting-one f = go (is_in l (support_from levels 0 σ ns)) refl
        where
          at : some (at_depth σ l ns) ≡ true → (x : ℕ) → x < l + 1 → x < length seats → Dec (x ≡ l)
              → get_or (set seats l (seat + 1)) x 0 ≡ seat_of x (support_from levels 0 σ ns)
          at s x p q (yes e) =
              rw (e, level-seat σ ns l levels h s, c.count) (get_or-set_same seats l (length (support_from l 0 σ ns) + 1) 0 k)
          at s x p q (no e) = get_or-set_other seats l x (seat + 1) 0 e ∙ c.below x (omega (arith, e)) q

          go : (b : Bool) → is_in l (support_from levels 0 σ ns) ≡ b → Counting σ levels ns long (set seats l (seat + 1)) (seat + 1) (l + 1)
          go true e = record {
            kept = length-set seats l (seat + 1) ∙ c.kept;
            within = omega arith;
            count = ap (λ n. n + 1) c.count ∙ sym (count-one σ ns l (at_level true e).1);
            below = λ x p q. at (at_level true e).1 x p (rw (length-set seats l (seat + 1)) at q) (ℕ_discrete x l);
            marks = λ x p q.
                get_or-set_other seats l x (seat + 1) 0 (λ e. omega arith)
                ∙ c.marks x (omega arith) (rw (length-set seats l (seat + 1)) at q);
          }
          go false e = absurd (f (at_level false e).0)

      -- level l has none
      pub counting-none : get_or seats l 0 ≡ 0 → Counting σ levels ns long seats seat (l + 1)
      counting-none z = go (is_in l (support_from levels 0 σ ns)) refl
        where
          go : (b : Bool) → is_in l (support_from levels 0 σ ns) ≡ b → Counting σ levels ns long seats seat (l + 1)
          go true e = absurd (omega (arith, (at_level true e).0))
          go false e = record {
            kept = c.kept;
            within = omega arith;
            count = c.count ∙ sym (count_none σ ns l (at_level false e).1);
            below = λ x p q. at x p q (ℕ_discrete x l);
            marks = λ x p. c.marks x (omega arith);
          }
            where
              at : (x : ℕ) → x < l + 1 → x < length seats → Dec (x ≡ l) → get_or seats x 0 ≡ seat_of x (support_from levels 0 σ ns)
              at x p q (yes n) = rw (n, out-seat l (support_from levels 0 σ ns) e) z
              at x p q (no n) = c.below x (omega (arith, n)) q
