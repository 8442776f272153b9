-- Laws of what is judged before anything is read: the lengths of the lent lists, and the input's.
use mathlib.Core.Path.{◌≡◌, refl, sym, ◌∙◌}
use mathlib.Core.Logic.{◌↔◌}
use mathlib.Core.Bool.{Bool, true, false, not, ◌&&◌}
use mathlib.Core.List.{List, [], ◌∷◌}
use Prim.Native.Nat.{ℕ, ◌+◌, ◌≤◌, ◌<◌}
use native.Mathlib.Numerals.{add-one}
use native.Mathlib.Omega.{arith}
use lib.ListN.{length, get_or, drop, replicate, drop_of_length-le, length-replicate}
use lib.Seq.{drop-cons}
use lib.Dec.{leb}
use borrow.Author.Tests.{leb-true, le-leb, lt-leb, not-true, not-false}
use Rattle.codes.proofs.Bytes.{both}
use Rattle.read_lines.specs.Each.{Each, none, each}
use Rattle.codes.specs.Limits.{Limits, limits, input_limit, var_limit, root_limit}
use Rattle.codes.specs.Faults.{first_fault}
use Rattle.codes.proofs.Faults.{refuses, first-none, rest-none}
use Rattle.codes.proofs.Refusals.{over-refuses, within-passes, within_none, unless-none}
use Rattle.header_checks.specs.Whole.{VariableLists}
use Rattle.header.specs.Header.{at_least, lists_fault, length_fault, length_after, MayRead}

-- Lengths pass exactly where each is enough.
pub lengths-enough : (least : ℕ) (l : List ℕ) → (at_least least l ≡ true) ↔ Each (λ n. least ≤ n) l
unfolding at_least
lengths-enough least [] = (λ h. none, λ e. refl)
lengths-enough least (n ∷ l) = (
  λ h. let w = both (leb least n) (at_least least l) h in each (leb-true least n w.0) ((lengths-enough least l).0 w.1),
  go (lengths-enough least l).1,
)
  where
    go : (Each (λ n. least ≤ n) l → at_least least l ≡ true) → Each (λ n. least ≤ n) (n ∷ l) → (leb least n && at_least least l) ≡ true
    go f (each h e) = rw (le-leb least n h) (f e)

-- The first i lengths are enough, so that the others decide.
module _ (least : ℕ) (l : List ℕ) (i : ℕ) (s : at_least least l ≡ at_least least (drop i l)) where
  -- no lengths are left
  pub lengths-end : length l ≤ i → at_least least l ≡ true
  unfolding at_least
  lengths-end h = s ∙ rw (drop_of_length-le l h)

  module _ (h : i < length l) where
    -- the next length isn't enough
    pub lengths_short : get_or l i 0 < least → at_least least l ≡ false
    unfolding at_least
    lengths_short k = s ∙ rw (drop-cons l i 0 h, lt-leb least (get_or l i 0) k)

    -- the next length is enough
    pub lengths-more : least ≤ get_or l i 0 → at_least least l ≡ at_least least (drop (i + 1) l)
    unfolding at_least
    lengths-more k = rw add-one (s ∙ rw (drop-cons l i 0 h, le-leb least (get_or l i 0) k))

module _ (vars roots : List ℕ) {a : Bool} (p : a ≡ at_least var_limit vars) where
  -- a list of variables is too short
  pub short-vars : not a ≡ true → 1 ≡ lists_fault vars roots
  unfolding lists_fault
  short-vars h = rw (← p, not-true a h)

  module _ (h : not a ≡ false) {b : Bool} (q : b ≡ at_least root_limit roots) where
    -- a list of roots is too short
    pub short-roots : not b ≡ true → 1 ≡ lists_fault vars roots
    unfolding lists_fault
    short-roots k = rw (← p, ← q, not-false a h, not-true b k)

    -- all are long enough
    pub long-enough : not b ≡ false → 0 ≡ lists_fault vars roots
    unfolding lists_fault
    long-enough k = rw (← p, ← q, not-false a h, not-false b k)

module _ (found n : ℕ) where
  -- what was found before stays
  pub length_found : (found ≡ 0 → ⊥) → found ≡ length_after limits found n
  unfolding length_after
  length_found h = refuses _ refl h

  module _ (z : found ≡ 0) where
    -- an input that is too long
    pub length_over : input_limit < n → 19 ≡ length_after limits found n
    unfolding length_after length_fault first_fault
    length_over h = rw (z, over-refuses input_limit n 19 h)

    -- one that isn't
    pub length-within : n ≤ input_limit → 0 ≡ length_after limits found n
    unfolding length_after length_fault first_fault
    length-within h = rw (z, within-passes input_limit n 19 h)

-- where nothing is found the input isn't too long
pub length_none : (m : Limits) (n : ℕ) → length_fault m n ≡ 0 → n ≤ m.input
unfolding length_fault
length_none m n h = within_none m.input n 18 h

-- an input that isn't too long has no fault
pub none-length : (m : Limits) (n : ℕ) → n ≤ m.input → length_fault m n ≡ 0
unfolding length_fault
none-length m n h = within-passes m.input n 19 h

-- so that what is found before the header lets it be read
pub length-may : (found : ℕ) (f : List ℕ) {n : ℕ} → n ≡ length_after limits found (length f) → MayRead limits n f
unfolding length_after
length-may found f e = λ z. length_none limits (length f) (first-none _ [] (rest-none found _ (sym e ∙ z)))

-- where the lent lists aren't too short, those of variables are as long as the limit
pub lists-long : (ids permids order auxids names lens roots : List ℕ)
    → lists_fault (length ids ∷ length order ∷ length permids ∷ length auxids ∷ length names ∷ length lens ∷ []) roots ≡ 0
    → VariableLists ids permids order auxids names lens
unfolding lists_fault
lists-long ids permids order auxids names lens roots h = go ((lengths-enough var_limit _).0 (both _ _ (unless-none _ 0 h)).0)
  where
    go : Each (λ n. var_limit ≤ n) (length ids ∷ length order ∷ length permids ∷ length auxids ∷ length names ∷ length lens ∷ [])
        → VariableLists ids permids order auxids names lens
    go (each a (each b (each c (each d (each e (each g none)))))) =
        record { ids_long = a; permids_long = c; others_long = record { names_long = b; lens_long = d; names2_long = e; lens2_long = g } }

-- as many zeros as the limit are
pub zeros-long : var_limit ≤ length (replicate {A = ℕ} var_limit 0)
zeros-long = omega (arith, length-replicate {A = ℕ} var_limit 0)

-- where nothing is found after the input's length, nothing was found before it
pub before-none : (found n : ℕ) → length_after limits found n ≡ 0 → found ≡ 0
unfolding length_after
before-none found n h = first-none found _ h
