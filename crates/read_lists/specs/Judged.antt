-- How the judging of a list ends, with no word of how it is done. Document 01: 'Entries of a line are judged left to right, an entry's
-- own fault before the count.'
use Rattle.std.specs.Prelude.{◌≡◌, List, [], ◌∷◌, ◌++◌, map, ℕ, ◌≤◌, ◌<◌, ◌^◌, length}
use Rattle.codes.specs.Answer.{Read, value, refused}
use Rattle.read_lines.specs.Words.{Word}
use Rattle.read_lists.specs.Lists.{Listed, listed}
use Rattle.read_lines.specs.Each.{Each}
use Rattle.read_numbers.specs.Digits.{Digits, decimal_value, PassesLimit, Foreign}

-- each word reads as the entry in its place
pub data Reads {A : Type 0} (read : Word → Read A) : List Word → List A → Type 0 where
  none : Reads read [] []
  more : {w : Word} {ws : List Word} {a : A} {fs : List A} → read w ≡ value a → Reads read ws fs → Reads read (w ∷ ws) (a ∷ fs)

-- What words are judged as, after the entries es, at most max in all.
pub data Judged {A : Type 0} (read : Word → Read A) (max : ℕ) (es : List A) (ws : List Word) : Listed A → Type 0 where
  -- every word is an entry
  whole : {fs : List A} → Reads read ws fs → length (es ++ fs) ≤ max → Judged read max es ws (listed (value (length (es ++ fs))) (es ++ fs))
  -- a word has a fault of its own, and the entries before it are not too many
  fault : {fs : List A} {n : ℕ} (front : List Word) (w : Word) (rest : List Word) → ws ≡ front ++ (w ∷ rest) → Reads read front fs
      → length (es ++ fs) ≤ max → read w ≡ refused n → Judged read max es ws (listed (refused n) (es ++ fs))
  -- '19 .. over a limit': one more entry after max of them, and with no fault
  full : {fs : List A} {a : A} (front : List Word) (w : Word) (rest : List Word) → ws ≡ front ++ (w ∷ rest) → Reads read front fs
      → length (es ++ fs) ≡ max → read w ≡ value a → Judged read max es ws (listed (refused 19) (es ++ fs))

-- A word that is a number of 32 bits, and that number.
pub record Numeral (w : Word) : Type 0 where
  pub digits : Digits w.bytes
  pub small : decimal_value w.bytes < 2 ^ 32

abbrev pub numeral : Word → ℕ
numeral w = decimal_value w.bytes

-- What the words of a list of unsigned numbers are judged as, at most max.
pub data Numerals (max : ℕ) (ws : List Word) : Listed ℕ → Type 0 where
  whole : Each Numeral ws → length ws ≤ max → Numerals max ws (listed (value (length ws)) (map numeral ws))
  -- '15 a number is too large .. over 32 in other unsigned ones'
  over : (front : List Word) (w : Word) (rest : List Word) → ws ≡ front ++ (w ∷ rest) → Each Numeral front → length front ≤ max
      → PassesLimit (2 ^ 32) w.bytes → Numerals max ws (listed (refused 15) (map numeral front))
  -- '16 a list has a foreign character'
  strange : (front : List Word) (w : Word) (rest : List Word) → ws ≡ front ++ (w ∷ rest) → Each Numeral front → length front ≤ max
      → Foreign (2 ^ 32) w.bytes → Numerals max ws (listed (refused 16) (map numeral front))
  -- '19 .. over a limit'
  full : (front : List Word) (w : Word) (rest : List Word) → ws ≡ front ++ (w ∷ rest) → Each Numeral front → length front ≡ max
      → Numeral w → Numerals max ws (listed (refused 19) (map numeral front))
