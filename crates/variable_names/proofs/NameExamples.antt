-- Names of three variables, of which 0 and 2 are support variables with permids 2 and 0.
use mathlib.Core.Path.{◌≡◌, refl}
use mathlib.Core.List.{List, [], ◌∷◌}
use mathlib.Core.Bool.{true, false}
use Prim.Native.Nat.{ℕ}
use Rattle.read_text.specs.Text.{Place, place}
use Rattle.seats.specs.Seats.{seat_of}
use Rattle.variable_names.specs.Names.{empty_name, are_same_bytes, same_name, free_from, ordered_from, ordered_seats, supp_from, supp_seats, variable_names}

abbrev ids : List ℕ
ids = 0 ∷ 2 ∷ []

abbrev permids : List ℕ
permids = 2 ∷ 0 ∷ []

-- variable 0 has position 2, variable 2 has position 0, and variable 1 has the position that is left
pub ordered-seats : ordered_seats 3 ids permids ≡ 3 ∷ 2 ∷ 1 ∷ []
unfolding ordered_seats ordered_from free_from seat_of
ordered-seats = refl

-- variable 1 is no support variable
pub supp-seats : supp_seats 3 ids ≡ 1 ∷ 0 ∷ 2 ∷ []
unfolding supp_seats supp_from seat_of
supp-seats = refl

-- names of one byte each
abbrev a : Place
a = place 10 1

abbrev b : Place
b = place 12 1

abbrev c : Place
c = place 14 1

abbrev d : Place
d = place 16 1

-- `.varnames` first
pub from_all : variable_names 3 ids permids (a ∷ b ∷ c ∷ []) (c ∷ b ∷ a ∷ []) (a ∷ c ∷ []) ≡ a ∷ b ∷ c ∷ []
unfolding variable_names
from_all = refl

-- else `.orderedvarnames`
pub from-ordered : variable_names 3 ids permids [] (a ∷ b ∷ c ∷ []) (a ∷ c ∷ []) ≡ c ∷ b ∷ a ∷ []
unfolding variable_names ordered_seats ordered_from free_from seat_of
from-ordered = refl

-- four variables, of which 2 is the support variable, with permid 0: it has the first name, and the others have the other names in order
pub from-ordered-rest : variable_names 4 (2 ∷ []) (0 ∷ []) [] (a ∷ b ∷ c ∷ d ∷ []) [] ≡ b ∷ c ∷ a ∷ d ∷ []
unfolding variable_names ordered_seats ordered_from free_from seat_of
from-ordered-rest = refl

-- else `.suppvarnames`
pub from-supp : variable_names 3 ids permids [] [] (a ∷ c ∷ []) ≡ a ∷ empty_name ∷ c ∷ []
unfolding variable_names supp_seats supp_from seat_of
from-supp = refl

-- else none
pub from-none : variable_names 3 ids permids [] [] [] ≡ []
unfolding variable_names
from-none = refl

-- the text `ab ab ac`
abbrev text : List ℕ
text = 97 ∷ 98 ∷ 32 ∷ 97 ∷ 98 ∷ 32 ∷ 97 ∷ 99 ∷ []

-- like names
pub like : same_name text (place 0 2) (place 3 2) ≡ true
unfolding same_name are_same_bytes
like = refl

-- another last byte
pub unlike-byte : same_name text (place 0 2) (place 6 2) ≡ false
unfolding same_name are_same_bytes
unlike-byte = refl

-- another length
pub unlike-length : same_name text (place 0 2) (place 3 1) ≡ false
unfolding same_name are_same_bytes
unlike-length = refl
