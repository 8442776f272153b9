-- Edge lists: root lists and child lists. An entry is a word: an optional minus and digits, judged from left to right.
use Rattle.std.specs.Prelude.{ℕ, ◌^◌, List, [], ◌∷◌, Bool, true, false, cond, length, get_or, ℤ, pos, neg_ℤ, eqb}
use Rattle.codes.specs.Answer.{Read, value, refused}
use Rattle.read_lines.specs.Words.{Word, words}
use Rattle.read_numbers.specs.declared.Role.TheVariants.{Magnitude}
use Rattle.read_numbers.specs.Number.{number}
use Rattle.read_lists.specs.Lists.{Listed, judge}

-- a magnitude with its sign
abbrev pub signed : Bool → ℕ → ℤ
signed true v = neg_ℤ (pos v)
signed false v = pos v

abbrev pub with_sign : Bool → Read ℕ → Read ℤ
with_sign minus (value v) = value (signed minus v)
with_sign minus (refused n) = refused n

-- Digits, after a minus or with none. 'A root or child number is at most 9223372036854775807 in magnitude', else 15; '16 a list has a
-- foreign character. 17 a second minus, or a minus after a digit.'
abbrev pub magnitude_of : Bool → List ℕ → Read ℤ
magnitude_of minus d = with_sign minus (number Magnitude (2 ^ 63) d)

-- What stands after a minus. Document 02, request 3: '17 also for a minus without its digit, found where the blank or the end stands.'
abbrev pub after_minus : List ℕ → Read ℤ
after_minus [] = refused 17
after_minus (x ∷ d) = magnitude_of true (x ∷ d)

-- An entry: an optional minus and digits. No word is without a byte.
unfoldable pub entry_bytes : List ℕ → Read ℤ
entry_bytes [] = magnitude_of false []
entry_bytes (x ∷ d) = cond (eqb x 45) (after_minus d) (magnitude_of false (x ∷ d))

abbrev pub entry_of : Word → Read ℤ
entry_of w = entry_bytes w.bytes

-- A list of edges, at most max.
unfoldable pub edge_list : ℕ → List ℕ → Listed ℤ
edge_list max s = judge entry_of max [] (words 0 s)

-- the children of a text node line: how many there are, and the first two, 0 where there are fewer
pub record Pair : Type 0 where
  pub count : ℕ
  pub first : ℤ
  pub second : ℤ

abbrev pub pair : ℕ → ℤ → ℤ → Pair
pair n a b = record { count = n; first = a; second = b }

abbrev pub pair_of : List ℤ → Read ℕ → Read Pair
pair_of es (value n) = value (pair n (get_or es 0 (pos 0)) (get_or es 1 (pos 0)))
pair_of es (refused n) = refused n

-- 'The child list is read whole, then counted': it has no limit, since a list of n bytes has no more than n entries.
unfoldable pub children : List ℕ → Read Pair
children s = pair_of (edge_list (length s) s).entries (edge_list (length s) s).answer
