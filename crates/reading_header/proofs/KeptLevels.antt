-- The levels of an order that have a line, and the variables of these levels.
use mathlib.Core.Path.{◌≡◌, refl, sym, ap, ◌∙◌}
use mathlib.Core.Bool.{Bool, true, false, cond, ◌&&◌, and-false}
use mathlib.Core.List.{List, [], ◌∷◌, map}
use mathlib.Core.Logic.{◌⊎◌, inl, inr}
use Prim.Native.Nat.{ℕ, suc, ◌+◌, ◌≤◌, ◌<◌}
use native.Mathlib.Omega.{arith}
use native.Mathlib.Decide.{ℕ_discrete}
use lib.Dec.{ltb}
use lib.ListN.{length, get_or}
use borrow.Author.Tests.{ne_eqb, lt-ltb}
use Rattle.codes.proofs.Bytes.{both}
use Rattle.seats.specs.Seats.{seat_of}
use Rattle.seats.specs.Ordered.{ascending, distinct}
use Rattle.support.specs.Support.{last_below, ids_fit, all_below, permids_fit}
use Rattle.reached.specs.Meet.{is_in}
use Rattle.reached.proofs.Entries.{never, in-cons, in-here, in_rest, once-head, once-tail, once-cons}
use Rattle.reached.proofs.Members.{in-none, cons-cases}
use Rattle.heading.specs.Heading.{ids_from, permids_of}
use Rattle.reading_header.specs.HeaderBack.{variable_of_level}

-- what holds of both lists holds of the chosen one
either : (P : List ℕ → Type 0) {l m : List ℕ} (b : Bool) → P l → P m → P (cond b l m)
either P true h k = h
either P false h k = k

module _ (x y : ℕ) (l : List ℕ) where
  -- one that isn't in a list isn't its first, nor in the rest
  out-cons : is_in x (y ∷ l) ≡ false → (x ≡ y → ⊥) × (is_in x l ≡ false)
  out-cons h = (λ e. never (rw e (in-here y l)) h, go (is_in x l) refl)
    where
      go : (b : Bool) → is_in x l ≡ b → b ≡ false
      go true e = absurd (never (in_rest x y l e) h)
      go false e = refl

  -- where it isn't the first, the rest decides
  pub in-other : (x ≡ y → ⊥) → is_in x (y ∷ l) ≡ is_in x l
  in-other h = in-cons x y l ∙ rw (ne_eqb x y h)

module _ (support : List ℕ) where
  -- Kept are the levels of the order that have a line.
  pub kept_in : (x : ℕ) (order : List ℕ) → is_in x (permids_of support order) ≡ (is_in x order && is_in x support)
  unfolding permids_of
  kept_in x [] = rw (in-none x)
  kept_in x (l ∷ order) = go (ℕ_discrete x l) (is_in l support) refl (permids_of support order) (kept_in x order)
    where
      go : Dec (x ≡ l) → (b : Bool) → is_in l support ≡ b → (ls : List ℕ) → is_in x ls ≡ (is_in x order && is_in x support)
          → is_in x (cond b (l ∷ ls) ls) ≡ (is_in x (l ∷ order) && is_in x support)
      go (yes e) true s ls k = rw (e, in-here l ls, in-here l order, s)
      go (yes e) false s ls k = k ∙ rw (e, s, and-false (is_in l order), and-false (is_in l (l ∷ order)))
      go (no e) true s ls k = rw (in-other x l ls e, in-other x l order e) k
      go (no e) false s ls k = rw (in-other x l order e) k

  -- They differ where the order's do, and are below a number where those are.
  kept-distinct : (order : List ℕ) → distinct order ≡ true → distinct (permids_of support order) ≡ true
  unfolding permids_of
  kept-distinct [] h = h
  kept-distinct (l ∷ order) h =
      let k = kept-distinct order (once-tail l order h) in
      let out : is_in l (permids_of support order) ≡ false = kept_in l order ∙ rw (once-head l order h) in
      either (λ ls. distinct ls ≡ true) (is_in l support) (once-cons l (permids_of support order) out k) k

  kept-below : (n : ℕ) (order : List ℕ) → all_below n order ≡ true → all_below n (permids_of support order) ≡ true
  unfolding permids_of all_below
  kept-below n [] h = refl
  kept-below n (l ∷ order) h =
      let p = both (ltb l n) (all_below n order) h in
      let k = kept-below n order p.1 in
      either (λ ls. all_below n ls ≡ true) (is_in l support) (rw p.0 k) k

  pub kept-fit : (n : ℕ) (order : List ℕ) → permids_fit n order ≡ true → permids_fit n (permids_of support order) ≡ true
  unfolding permids_fit
  kept-fit n order h =
      let p = both (all_below n order) (distinct order) h in
      rw (kept-below n order p.0, kept-distinct order p.1)

  -- Their variables ascend, also after a number below the first variable,
  ascend-after : (u v : ℕ) (order : List ℕ) → u < v → ascending (u ∷ ids_from support v order) ≡ true
  unfolding ids_from ascending
  ascend-after u v [] h = refl
  ascend-after u v (l ∷ order) h =
      either (λ is. ascending (u ∷ is) ≡ true) (is_in l support)
      (rw (lt-ltb u v h) (ascend-after v (v + 1) order (omega arith)))
      (ascend-after u (v + 1) order (omega arith))

  ids-ascend : (v : ℕ) (order : List ℕ) → ascending (ids_from support v order) ≡ true
  unfolding ids_from ascending
  ids-ascend v [] = refl
  ids-ascend v (l ∷ order) =
      either (λ is. ascending is ≡ true) (is_in l support) (ascend-after v (v + 1) order (omega arith)) (ids-ascend (v + 1) order)

  -- and are below the number of variables.
  ids-last : (n v : ℕ) (order : List ℕ) → v + length order ≤ n → last_below n (ids_from support v order) ≡ true
  unfolding ids_from last_below
  ids-last n v [] h = refl
  ids-last n v (l ∷ order) h =
      let k = ids-last n (v + 1) order (omega arith) in
      either (λ is. last_below n is ≡ true) (is_in l support) (more (ids_from support (v + 1) order) k) k
    where
      more : (is : List ℕ) → last_below n is ≡ true → last_below n (v ∷ is) ≡ true
      more [] k = lt-ltb v n (omega arith)
      more (i ∷ is) k = k

  pub ids-fit : (order : List ℕ) → ids_fit (length order) (ids_from support 0 order) ≡ true
  unfolding ids_fit
  ids-fit order = rw (ids-ascend 0 order, ids-last (length order) 0 order (omega arith))

  -- Each has its level's variable, where those of all levels given are v, v + 1, ..
  pub variables-from : (order : List ℕ) (v : ℕ) (ls : List ℕ) → ((i : ℕ) → i < length ls → seat_of (get_or ls i 0) order ≡ v + i + 1)
      → map (variable_of_level order) (permids_of support ls) ≡ ids_from support v ls
  unfolding permids_of ids_from
  variables-from order v [] h = refl
  variables-from order v (l ∷ ls) h = go (is_in l support) (variables-from order (v + 1) ls (λ i k. h (suc i) (omega arith) ∙ omega arith))
    where
      go : (b : Bool) {is : List ℕ} → map (variable_of_level order) (permids_of support ls) ≡ is
          → map (variable_of_level order) (cond b (l ∷ permids_of support ls) (permids_of support ls)) ≡ cond b (v ∷ is) is
      go true e = let z : variable_of_level order l ≡ v = omega (arith, h 0 (omega arith)) in rw (z, e)
      go false e = e

-- Where no level has a line none is kept.
pub none_kept : (order : List ℕ) → permids_of [] order ≡ []
unfolding permids_of seat_of
none_kept [] = refl
none_kept (l ∷ order) = none_kept order

-- One level more that has a line
module _ (s : ℕ) (support : List ℕ) where
  -- changes nothing outside the order,
  pub kept_same : (order : List ℕ) → is_in s order ≡ false → permids_of (s ∷ support) order ≡ permids_of support order
  unfolding permids_of
  kept_same [] h = refl
  kept_same (l ∷ order) h =
      let u = out-cons s l order h in
      rw (in-other l s support (λ e. u.0 (sym e)), kept_same order u.1)

  -- and is kept once inside.
  pub kept_more : (order : List ℕ) → distinct order ≡ true → is_in s support ≡ false → is_in s order ≡ true
      → length (permids_of (s ∷ support) order) ≡ suc (length (permids_of support order))
  unfolding permids_of
  kept_more [] d out h = absurd (never h (in-none s))
  kept_more (l ∷ order) d out h =
      go (cons-cases s l order h) (once-head l order d) (kept_more order (once-tail l order d) out)
    where
      one_more : (b : Bool) (ls ms : List ℕ) → length ls ≡ suc (length ms) → length (cond b (l ∷ ls) ls) ≡ suc (length (cond b (l ∷ ms) ms))
      one_more true ls ms e = ap suc e
      one_more false ls ms e = e

      go : (s ≡ l) ⊎ (is_in s order ≡ true) → is_in l order ≡ false
          → (is_in s order ≡ true → length (permids_of (s ∷ support) order) ≡ suc (length (permids_of support order)))
          → length (permids_of (s ∷ support) (l ∷ order)) ≡ suc (length (permids_of support (l ∷ order)))
      go (inl e) k later = rw (← e, in-here s support, out, kept_same order (rw (← e) at k))
      go (inr i) k later =
          rw (in-other l s support (λ e. never i (rw e at k)))
          (one_more (is_in l support) (permids_of (s ∷ support) order) (permids_of support order) (later i))
