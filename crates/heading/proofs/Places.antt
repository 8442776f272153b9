-- Names by the places that they are lent in.
use mathlib.Core.Path.{◌≡◌, sym, ap, ◌∙◌}
use mathlib.Core.Bool.{Bool, true, false, ◌||◌}
use mathlib.Core.List.{List, [], ◌∷◌}
use Prim.Native.Nat.{ℕ, zero, suc, ◌+◌, ◌-◌, ◌≤◌, ◌<◌}
use native.Mathlib.Nat.{suc_inj}
use native.Mathlib.Numerals.{add-one}
use native.Mathlib.Omega.{arith}
use lib.Dec.{eqb}
use lib.ListN.{length, get_or, take, drop, drop_of_length-le, get_or-map}
use lib.Seq.{drop-cons}
use borrow.Author.Tests.{leb-true, eqb-true}
use Rattle.codes.proofs.Bytes.{both}
use Rattle.read_text.specs.Text.{place}
use Rattle.variable_names.specs.Names.{places, empty_name}
use Rattle.variable_names.proofs.Placed.{get_d-places}
use Rattle.export_names.specs.Names.{counted, inside, name_at, names_at, fit_name, fit_place, fit_places, name_list_fits}
use Rattle.export_names.proofs.FitLists.{list_length}
use Rattle.heading.specs.Tables.{Inside}

-- a part of the lent bytes, by its start and its end, is the name at the place
pub part-name : (bytes : List ℕ) (s n : ℕ) → take (s + n - s) (drop s bytes) ≡ name_at bytes (place s n)
part-name bytes s n = let e : s + n - s ≡ n = omega arith in rw e

-- the name of an entry is the one at its place
pub name-at : (bytes starts lens : List ℕ) (i : ℕ) → length lens ≡ length starts
    → get_or (names_at bytes starts lens) i [] ≡ name_at bytes (place (get_or starts i 0) (get_or lens i 0))
unfolding names_at
name-at bytes starts lens i e = get_or-map (name_at bytes) (places starts lens) i empty_name ∙ ap (name_at bytes) (get_d-places starts lens i e)

-- a place that fits lies inside
pub place_inside : (d : Bool) (bytes : List ℕ) (s n : ℕ) → fit_place d bytes (place s n) ≡ true → s + n ≤ length bytes
place_inside d bytes s n h = leb-true (s + n) (length bytes) (both (inside bytes (place s n)) (fit_name d (name_at bytes (place s n))) h).0

places-inside : (bytes ss ns : List ℕ) → length ns ≡ length ss → fit_places false bytes (places ss ns) ≡ true
    → (i : ℕ) → i < length ns → get_or ss i 0 + get_or ns i 0 ≤ length bytes
unfolding places fit_places
places-inside bytes [] [] e h i k = absurd (omega arith)
places-inside bytes [] (n ∷ ns) e h i k = absurd (omega arith)
places-inside bytes (s ∷ ss) [] e h i k = absurd (omega arith)
places-inside bytes (s ∷ ss) (n ∷ ns) e h zero k = place_inside false bytes s n (both (fit_place false bytes (place s n)) (fit_places false bytes (places ss ns)) h).0
places-inside bytes (s ∷ ss) (n ∷ ns) e h (suc i) k =
    places-inside bytes ss ns (suc_inj e) (both (fit_place false bytes (place s n)) (fit_places false bytes (places ss ns)) h).1 i (omega arith)

-- a list of names that fits lies inside
pub list_inside : (want : ℕ) (bytes starts lens : List ℕ) → name_list_fits want bytes starts lens ≡ true → Inside bytes starts lens
unfolding name_list_fits counted
list_inside want bytes starts lens h =
    let p = both (counted want starts lens) (fit_places false bytes (places starts lens)) h in
    let e = sym (eqb-true (length starts) (length lens) (both (eqb (length starts) (length lens)) (eqb (length lens) 0 || eqb (length lens) want) p.0).0) in
    record { even = e; many = list_length want bytes starts lens h; within = places-inside bytes starts lens e p.1 }

-- The names of a list, one after another: the one at i comes next, and in the end none is left.
module _ {bytes starts lens : List ℕ} (p : Inside bytes starts lens) {i : ℕ} where
  pub name-next : i < length lens
      → drop i (names_at bytes starts lens) ≡ get_or (names_at bytes starts lens) i [] ∷ drop (i + 1) (names_at bytes starts lens)
  name-next h = let k : i < length (names_at bytes starts lens) = omega (arith, p.many) in rw (add-one i) (drop-cons (names_at bytes starts lens) i [] k)

  pub names-end : length lens ≤ i → drop i (names_at bytes starts lens) ≡ []
  names-end h = let k : length (names_at bytes starts lens) ≤ i = omega (arith, p.many) in drop_of_length-le (names_at bytes starts lens) k
