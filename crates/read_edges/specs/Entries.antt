-- What the bytes of an entry say, with no word of how it is read. Document 01, 'The file's writer, line by line', 15 to 17; 'A root or
-- child number is at most 9223372036854775807 in magnitude'; document 02, request 3: 'A minus must touch its digit.'
use Rattle.std.specs.Prelude.{◌≡◌, Bool, true, cond, List, [], ◌∷◌, ℕ, ◌^◌, ℤ}
use Rattle.codes.specs.Answer.{Read, value, refused}
use Rattle.codes.specs.Bytes.{is_digit}
use Rattle.read_lines.specs.Words.{Word}
use Rattle.read_numbers.specs.Digits.{Says, PassesLimit, Foreign}
use Rattle.read_edges.specs.Edges.{signed}

-- a minus or none, and then bytes
abbrev pub behind : Bool → List ℕ → List ℕ
behind minus d = cond minus (45 ∷ d) d

-- An entry: a minus or none, and then digits, at least one, for a magnitude below 2 ^ 63.
pub record Signed (w : List ℕ) (minus : Bool) (v : ℕ) : Type 0 where
  pub digits : List ℕ
  pub is : w ≡ behind minus digits
  pub some : digits ≡ [] → ⊥
  pub says : Says (2 ^ 63) digits v

-- What the answer to an entry can be, and of which bytes.
pub data EntryAnswers (w : List ℕ) : Read ℤ → Type 0 where
  reads : {minus : Bool} {v : ℕ} → Signed w minus v → EntryAnswers w (value (signed minus v))
  -- '15 a number is too large': the digit that takes a magnitude to 2 ^ 63
  over : (minus : Bool) {d : List ℕ} → w ≡ behind minus d → PassesLimit (2 ^ 63) d → EntryAnswers w (refused 15)
  -- '16 a list has a foreign character': no digit, no minus
  strange : (minus : Bool) {d : List ℕ} → w ≡ behind minus d → (f : Foreign (2 ^ 63) d) → (f.byte ≡ 45 → ⊥) → EntryAnswers w (refused 16)
  -- '17 a second minus,
  second : (rest : List ℕ) → w ≡ 45 ∷ 45 ∷ rest → EntryAnswers w (refused 17)
  -- or a minus after a digit': '`3-`: 17'
  inside : (minus : Bool) {d : List ℕ} → w ≡ behind minus d → (f : Foreign (2 ^ 63) d) → (f.front ≡ [] → ⊥) → f.byte ≡ 45 → EntryAnswers w (refused 17)
  -- '17 also for a minus without its digit': a word that is a minus has a blank or the end behind it
  alone : w ≡ 45 ∷ [] → EntryAnswers w (refused 17)

-- words that are entries, and their numbers
pub data Entries : List Word → List ℤ → Type 0 where
  none : Entries [] []
  more : {w : Word} {ws : List Word} {es : List ℤ} {minus : Bool} {v : ℕ} → Signed w.bytes minus v → Entries ws es → Entries (w ∷ ws) (signed minus v ∷ es)

-- 'A minus must touch its digit': so does each minus of these bytes.
pub data Touching : List ℕ → Type 0 where
  end : Touching []
  other : {x : ℕ} {s : List ℕ} → (x ≡ 45 → ⊥) → Touching s → Touching (x ∷ s)
  minus : {x : ℕ} {s : List ℕ} → is_digit x ≡ true → Touching (x ∷ s) → Touching (45 ∷ x ∷ s)
