-- The names of variables. Document 01, 'The file's writer, header as a whole' (24), and 'Header' ('Names: ..').
use Rattle.std.specs.Prelude.{◌≡◌, ℕ, zero, suc, ◌+◌, ◌<◌, List, [], ◌∷◌, map, Bool, true, ◌&&◌, get_or, drop, eqb}
use Rattle.read_text.specs.Text.{Place, place}
use Rattle.seats.specs.Seats.{seat_of}

-- 'An empty name .. is start 0, length 0.'
abbrev pub empty_name : Place
empty_name = place 0 0

-- the places that two lists, of starts and of lengths, hold
unfoldable pub places : List ℕ → List ℕ → List Place
places [] lens = []
places (s ∷ ss) [] = []
places (s ∷ ss) (n ∷ ns) = place s n ∷ places ss ns

-- names at two places that aren't 'unlike': equally long, and byte by byte the same
pub record LikeNames (f : List ℕ) (p q : Place) : Type 0 where
  pub same_length : p.len ≡ q.len
  pub same_bytes : (k : ℕ) → k < p.len → get_or f (p.start + k) 0 ≡ get_or f (q.start + k) 0

-- whether the n bytes from a on are those from b on
unfoldable pub are_same_bytes : List ℕ → ℕ → ℕ → ℕ → Bool
are_same_bytes f a b zero = true
are_same_bytes f a b (suc n) = eqb (get_or f a 0) (get_or f b 0) && are_same_bytes f (a + 1) (b + 1) n

-- whether two places hold like names: equally long, and byte by byte the same
unfoldable pub same_name : List ℕ → Place → Place → Bool
same_name f p q = eqb p.len q.len && are_same_bytes f p.start q.start p.len

-- whether two lists of names are alike, entry by entry, as far as both reach
unfoldable pub same_names : List ℕ → List Place → List Place → Bool
same_names f [] qs = true
same_names f (p ∷ ps) [] = true
same_names f (p ∷ ps) (q ∷ qs) = same_name f p q && same_names f ps qs

-- the names at positions of a list
unfoldable pub chosen_places : List ℕ → List Place → List Place
chosen_places is names = map (λ i. get_or names i empty_name) is

-- of the positions p, p + 1, .., n of them, those that are no permids, counted from 1
unfoldable pub free_from : ℕ → ℕ → List ℕ → List ℕ
free_from zero p permids = []
free_from (suc n) p permids =
    elim (seat_of p permids) [ zero ↦ suc p ∷ free_from n (p + 1) permids | suc i ↦ free_from n (p + 1) permids ]

-- Where the names of the variables v, v + 1, .., n of them, stand in `.orderedvarnames`, counted from 1: 'support variables by permid
-- and the rest in order'. The rest has the positions that are no permids, of which some are left.
unfoldable pub ordered_from : ℕ → ℕ → List ℕ → List ℕ → List ℕ → List ℕ
ordered_from zero v ids permids free = []
ordered_from (suc n) v ids permids free =
    elim (seat_of v ids) [
      | suc i ↦ suc (get_or permids i 0) ∷ ordered_from n (v + 1) ids permids free
      | zero ↦ get_or free 0 0 ∷ ordered_from n (v + 1) ids permids (drop 1 free)
    ]

unfoldable pub ordered_seats : ℕ → List ℕ → List ℕ → List ℕ
ordered_seats nvars ids permids = ordered_from nvars 0 ids permids (free_from nvars 0 permids)

-- Where the names of the variables v, v + 1, .., n of them, stand in `.suppvarnames`, counted from 1, and 0 'elsewhere'.
unfoldable pub supp_from : ℕ → ℕ → List ℕ → List ℕ
supp_from zero v ids = []
supp_from (suc n) v ids = seat_of v ids ∷ supp_from n (v + 1) ids

unfoldable pub supp_seats : ℕ → List ℕ → List ℕ
supp_seats nvars ids = supp_from nvars 0 ids

-- the entry at a seat of a list; 0 where there is no seat
abbrev pub entry_at : List ℕ → ℕ → ℕ
entry_at l zero = 0
entry_at l (suc i) = get_or l i 0

-- the name at a seat of a list; an empty one where there is no seat
abbrev pub name_at_seat : List Place → ℕ → Place
name_at_seat names zero = empty_name
name_at_seat names (suc i) = get_or names i empty_name

-- 'Names: `.varnames` first; else `.orderedvarnames`, support variables by permid and the rest in order; else `.suppvarnames` with empty names elsewhere.'
unfoldable pub variable_names : ℕ → List ℕ → List ℕ → List Place → List Place → List Place → List Place
variable_names nvars ids permids (n ∷ varnames) ordered supp = n ∷ varnames
variable_names nvars ids permids [] (n ∷ ordered) supp = map (name_at_seat (n ∷ ordered)) (ordered_seats nvars ids permids)
variable_names nvars ids permids [] [] (n ∷ supp) = map (name_at_seat (n ∷ supp)) (supp_seats nvars ids)
variable_names nvars ids permids [] [] [] = []
