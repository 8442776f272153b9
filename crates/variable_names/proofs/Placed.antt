-- Laws of names that are held as two lists, of starts and of lengths.
use mathlib.Core.Path.{◌≡◌, refl, sym, ap, ◌∙◌}
use mathlib.Core.List.{List, [], ◌∷◌, map}
use Prim.Native.Nat.{ℕ, zero, suc}
use native.Mathlib.Nat.{suc_inj}
use native.Mathlib.Omega.{arith}
use lib.ListN.{length, get_or, get_or-map}
use Rattle.read_text.specs.Text.{Place, place, start_of, len_of}
use Rattle.variable_names.specs.Names.{places, empty_name, name_at_seat, entry_at}

-- the place at a position
pub get_d-places : (ss ns : List ℕ) (i : ℕ) → length ns ≡ length ss → get_or (places ss ns) i empty_name ≡ place (get_or ss i 0) (get_or ns i 0)
unfolding places
get_d-places [] [] i e = refl
get_d-places [] (n ∷ ns) i e = absurd (omega arith)
get_d-places (s ∷ ss) [] i e = absurd (omega arith)
get_d-places (s ∷ ss) (n ∷ ns) zero e = refl
get_d-places (s ∷ ss) (n ∷ ns) (suc i) e = get_d-places ss ns i (suc_inj e)

-- places are their starts and their lengths
pub places-parts : (ps : List Place) → places (map start_of ps) (map len_of ps) ≡ ps
unfolding places
places-parts [] = refl
places-parts (p ∷ ps) = ap (λ l. p ∷ l) (places-parts ps)

module _ (part : Place → ℕ) (none : part empty_name ≡ 0) (names : List Place) where
  -- a part of the name at a seat is the entry at that seat of the names' parts
  part_at : (k : ℕ) → part (name_at_seat names k) ≡ entry_at (map part names) k
  part_at zero = none
  part_at (suc i) = sym (get_or-map part names i empty_name) ∙ ap (get_or (map part names) i) none

  -- and so for each seat of a list
  part-names : (seats : List ℕ) → map part (map (name_at_seat names) seats) ≡ map (entry_at (map part names)) seats
  part-names [] = refl
  part-names (k ∷ seats) = rw (part_at k, part-names seats)

-- the starts of the names at seats are the entries at those seats of the names' starts
pub starts-gathered : (names : List Place) (seats : List ℕ)
    → map start_of (map (name_at_seat names) seats) ≡ map (entry_at (map start_of names)) seats
starts-gathered names seats = part-names start_of refl names seats

-- the lengths of the names at seats are the entries at those seats of the names' lengths
pub lens-gathered : (names : List Place) (seats : List ℕ)
    → map len_of (map (name_at_seat names) seats) ≡ map (entry_at (map len_of names)) seats
lens-gathered names seats = part-names len_of refl names seats
