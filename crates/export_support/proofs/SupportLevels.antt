-- The levels that have a node of a list: those of its inner nodes, in ascending order.
use mathlib.Core.Path.{◌≡◌, refl, sym, ◌∙◌}
use mathlib.Core.Bool.{Bool, true, false, cond, ◌||◌, or-true}
use mathlib.Core.List.{List, [], ◌∷◌}
use Prim.Native.Nat.{ℕ, zero, suc, ◌+◌, ◌≤◌, ◌<◌}
use native.Mathlib.Omega.{arith}
use native.Mathlib.Decide.{ℕ_discrete}
use lib.ListN.{length, get_or}
use lib.Dec.{eqb}
use borrow.Author.Tests.{eqb-true, eq-eqb, ne_eqb, lt-ltb}
use Rattle.store.specs.Store.{Store, level_at}
use Rattle.store.specs.Rules.{depth}
use Rattle.seats.specs.Seats.{seat_of}
use Rattle.seats.specs.Ordered.{ascending}
use Rattle.support.specs.Support.{last_below, ids_fit}
use Rattle.reached.specs.Meet.{is_in}
use Rattle.numbering.specs.Numbering.{at_depth}
use Rattle.numbering.specs.Support.{some, support_from, leveled, support_of}
use Rattle.reached.proofs.Entries.{never, in-cons, in-here, in_rest, in-seat}
use Rattle.reached.proofs.EntrySeats.{seat-in}

-- a level in front of later ones
ascending-cons : (l : ℕ) (ls : List ℕ) → ((x : ℕ) → is_in x ls ≡ true → l < x) → ascending ls ≡ true → ascending (l ∷ ls) ≡ true
unfolding ascending
ascending-cons l [] h a = refl
ascending-cons l (x ∷ ls) h a = rw (lt-ltb l x (h x (in-here x ls))) a

-- the last of a list whose entries are below n
last-below : (n : ℕ) (ls : List ℕ) → ((x : ℕ) → is_in x ls ≡ true → x < n) → last_below n ls ≡ true
unfolding last_below
last-below n [] h = refl
last-below n (x ∷ []) h = lt-ltb x n (h x (in-here x []))
last-below n (x ∷ y ∷ ls) h = last-below n (y ∷ ls) (λ z k. h z (in_rest z x (y ∷ ls) k))

module _ (σ : Store) where
  -- a list has a node at a depth where its first node lies there, or where the rest has one
  pub some-cons : (d n : ℕ) (ns : List ℕ) → some (at_depth σ d (n ∷ ns)) ≡ (eqb (depth σ n) d || some (at_depth σ d ns))
  unfolding at_depth
  some-cons d n ns = go (eqb (depth σ n) d)
    where
      go : (b : Bool) → some (cond b (n ∷ at_depth σ d ns) (at_depth σ d ns)) ≡ (b || some (at_depth σ d ns))
      go true = refl
      go false = refl

  -- it has one where an entry lies ..
  some-has : (ns : List ℕ) (i : ℕ) → i < length ns → some (at_depth σ (depth σ (get_or ns i 0)) ns) ≡ true
  some-has [] i h = absurd (omega arith)
  some-has (n ∷ ns) zero h = some-cons (depth σ n) n ns ∙ rw (eq-eqb (depth σ n) (depth σ n) refl)
  some-has (n ∷ ns) (suc i) h =
      let d = depth σ (get_or ns i 0) in
      some-cons d n ns ∙ rw (some-has ns i (omega arith)) (or-true (eqb (depth σ n) d))

  -- .. and nowhere else
  some-only : (d : ℕ) (ns : List ℕ) → some (at_depth σ d ns) ≡ true → (i : ℕ) × (i < length ns) × (depth σ (get_or ns i 0) ≡ d)
  unfolding at_depth
  some-only d [] h = absurd (never h refl)
  some-only d (n ∷ ns) h = go (eqb (depth σ n) d) refl (sym (some-cons d n ns) ∙ h) (some-only d ns)
    where
      go : (b : Bool) → eqb (depth σ n) d ≡ b → (b || some (at_depth σ d ns)) ≡ true
          → (some (at_depth σ d ns) ≡ true → (i : ℕ) × (i < length ns) × (depth σ (get_or ns i 0) ≡ d))
          → (i : ℕ) × (i < length (n ∷ ns)) × (depth σ (get_or (n ∷ ns) i 0) ≡ d)
      go true e h ih = (0, omega arith, eqb-true (depth σ n) d e)
      go false e h ih = let p = ih h in (suc p.0, omega (arith, p.1), p.2)

  module _ (ns : List ℕ) where
    -- one level more changes nothing for another
    from_step : (x k l : ℕ) → (x ≡ l → ⊥) → is_in x (support_from (suc k) l σ ns) ≡ is_in x (support_from k (l + 1) σ ns)
    unfolding support_from
    from_step x k l h = go (some (at_depth σ l ns))
      where
        go : (b : Bool) → is_in x (cond b (l ∷ support_from k (l + 1) σ ns) (support_from k (l + 1) σ ns)) ≡ is_in x (support_from k (l + 1) σ ns)
        go true = in-cons x l (support_from k (l + 1) σ ns) ∙ rw (ne_eqb x l h)
        go false = refl

    -- of a range of levels none comes before the first ..
    from_low : (x k l : ℕ) → x < l → is_in x (support_from k l σ ns) ≡ false
    unfolding support_from seat_of
    from_low x zero l h = refl
    from_low x (suc k) l h = from_step x k l (λ e. omega arith) ∙ from_low x k (l + 1) (omega arith)

    -- .. none after the last ..
    pub from-high : (x k l : ℕ) → l + k ≤ x → is_in x (support_from k l σ ns) ≡ false
    unfolding support_from seat_of
    from-high x zero l h = refl
    from-high x (suc k) l h = from_step x k l (λ e. omega arith) ∙ from-high x k (l + 1) (omega arith)

    -- .. (so each is below their count, if they start at 0) ..
    from-below : (x k : ℕ) → is_in x (support_from k 0 σ ns) ≡ true → x < k
    from-below x k h = let f : k ≤ x → ⊥ = λ p. never h (from-high x k 0 (omega arith)) in omega (arith, f)

    -- .. and between them each that has a node
    pub from_in : (x k l : ℕ) → l ≤ x → x < l + k → is_in x (support_from k l σ ns) ≡ some (at_depth σ x ns)
    unfolding support_from
    from_in x zero l h p = absurd (omega arith)
    from_in x (suc k) l h p = go (ℕ_discrete x l) (from_in x k (l + 1))
      where
        here : (b : Bool) → is_in x (cond b (x ∷ support_from k (x + 1) σ ns) (support_from k (x + 1) σ ns)) ≡ b
        here true = in-here x (support_from k (x + 1) σ ns)
        here false = from_low x k (x + 1) (omega arith)

        go : Dec (x ≡ l) → (l + 1 ≤ x → x < l + 1 + k → is_in x (support_from k (l + 1) σ ns) ≡ some (at_depth σ x ns))
            → is_in x (support_from (suc k) l σ ns) ≡ some (at_depth σ x ns)
        go (yes e) ih = rw (← e) (here (some (at_depth σ x ns)))
        go (no e) ih = from_step x k l e ∙ ih (omega (arith, e)) (omega arith)

    -- they ascend
    from-ascending : (k l : ℕ) → ascending (support_from k l σ ns) ≡ true
    unfolding support_from ascending
    from-ascending zero l = refl
    from-ascending (suc k) l = go (some (at_depth σ l ns)) (from-ascending k (l + 1))
      where
        later : (x : ℕ) → is_in x (support_from k (l + 1) σ ns) ≡ true → l < x
        later x h = let f : x < l + 1 → ⊥ = λ p. never h (from_low x k (l + 1) p) in omega (arith, f)

        go : (b : Bool) → ascending (support_from k (l + 1) σ ns) ≡ true
            → ascending (cond b (l ∷ support_from k (l + 1) σ ns) (support_from k (l + 1) σ ns)) ≡ true
        go true ih = ascending-cons l (support_from k (l + 1) σ ns) later ih
        go false ih = ih

module _ (σ : Store) where
  -- an inner node lies at its level
  level-depth : (n : ℕ) → 2 ≤ n → depth (leveled σ) n ≡ level_at σ n
  level-depth zero h = absurd (omega arith)
  level-depth (suc zero) h = absurd (omega arith)
  level-depth (suc (suc n)) h = refl

  -- no other node lies at a level
  depth-level : (n l : ℕ) → depth (leveled σ) n ≡ l → l < σ.levels → (2 ≤ n) × (level_at σ n ≡ l)
  depth-level zero l e h = absurd (omega arith)
  depth-level (suc zero) l e h = absurd (omega arith)
  depth-level (suc (suc n)) l e h = (omega arith, e)

  module _ (ns : List ℕ) where
    -- each inner node's level is in the support ..
    pub support-has : (i : ℕ) → i < length ns → 2 ≤ get_or ns i 0 → level_at σ (get_or ns i 0) < σ.levels
        → 1 ≤ seat_of (level_at σ (get_or ns i 0)) (support_of σ ns)
    support-has i h k low =
        let l = level_at σ (get_or ns i 0) in
        in-seat l (support_of σ ns)
        (from_in (leveled σ) ns l σ.levels 0 (omega arith) (omega arith) ∙ rw (level-depth (get_or ns i 0) k) at (some-has (leveled σ) ns i h))

    -- .. and no other
    pub support-only : (l : ℕ) → 1 ≤ seat_of l (support_of σ ns)
        → (i : ℕ) × (i < length ns) × (2 ≤ get_or ns i 0) × (level_at σ (get_or ns i 0) ≡ l)
    support-only l h =
        let m = seat-in l (support_of σ ns) h in
        let low = from-below (leveled σ) ns l σ.levels m in
        let p = some-only (leveled σ) l ns (sym (from_in (leveled σ) ns l σ.levels 0 (omega arith) (omega arith)) ∙ m) in
        let q = depth-level (get_or ns p.0 0) l p.2 low in
        (p.0, p.1, q.0, q.1)

    -- it ascends, and all of it is below the level count
    pub support-fits : ids_fit σ.levels (support_of σ ns) ≡ true
    unfolding ids_fit
    support-fits =
        rw (from-ascending (leveled σ) ns σ.levels 0)
        (last-below σ.levels (support_of σ ns) (λ x. from-below (leveled σ) ns x σ.levels))
