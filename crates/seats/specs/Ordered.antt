-- Lists of numbers that ascend, or in which no number stands twice: as propositions, and as tests that compute.
use Rattle.std.specs.Prelude.{◌≡◌, ℕ, ◌<◌, List, [], ◌∷◌, Bool, true, ◌&&◌, length, get_or, ltb, eqb}
use Rattle.seats.specs.Seats.{seat_of}

-- 'strictly ascending': an earlier entry is below a later one
abbrev pub Ascends : List ℕ → Type 0
Ascends l = (i j : ℕ) → i < j → j < length l → get_or l i 0 < get_or l j 0

-- not 'twice': two positions that have one entry are one position
abbrev pub Once : List ℕ → Type 0
Once l = (i j : ℕ) → i < length l → j < length l → get_or l i 0 ≡ get_or l j 0 → i ≡ j

-- '22 `.ids` not strictly ascending': each entry is below the one after it
unfoldable pub ascending : List ℕ → Bool
ascending [] = true
ascending (x ∷ []) = true
ascending (x ∷ y ∷ l) = ltb x y && ascending (y ∷ l)

-- 'or twice': no entry stands among those after it
unfoldable pub distinct : List ℕ → Bool
distinct [] = true
distinct (x ∷ l) = eqb (seat_of x l) 0 && distinct l
