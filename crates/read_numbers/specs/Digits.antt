-- What the bytes of a decimal number say, with no word of how it is read. Document 01, 'The file's writer, line by line': '14 a single
-- number has a foreign character or no digit. 15 a number is too large .. 16 a list has a foreign character.'
use Rattle.std.specs.Prelude.{◌≡◌, true, false, List, [], ◌∷◌, ◌++◌, map, ℕ, ◌-◌, ◌≤◌, ◌<◌}
use Rattle.codes.specs.Answer.{Read, value, refused}
use Rattle.codes.specs.Bytes.{is_digit}
use Rattle.read_numbers.specs.declared.Role.{Role}
use Rattle.read_numbers.specs.declared.Role.TheVariants.{Single}
use Rattle.read_numbers.specs.Value.{value_of}
use Rattle.read_numbers.specs.Number.{foreign}
use Rattle.read_lines.specs.Each.{Each}

-- every byte is a digit
abbrev pub Digits : List ℕ → Type 0
Digits s = Each (λ x. is_digit x ≡ true) s

abbrev pub digit_of : ℕ → ℕ
digit_of x = x - 48

-- the number that digits stand for, in base ten, highest first
abbrev pub decimal_value : List ℕ → ℕ
decimal_value s = value_of 10 (map digit_of s)

-- digits throughout, for a number below the limit
pub record Says (lim : ℕ) (s : List ℕ) (v : ℕ) : Type 0 where
  pub digits : Digits s
  pub value : decimal_value s ≡ v
  pub small : v < lim

-- '15 a number is too large': the digit that takes it to the limit. What follows doesn't matter.
pub record PassesLimit (lim : ℕ) (s : List ℕ) : Type 0 where
  pub front : List ℕ
  pub last : ℕ
  pub rest : List ℕ
  pub is : s ≡ front ++ (last ∷ rest)
  pub digits : Digits (front ++ (last ∷ []))
  pub small : decimal_value front < lim
  pub over : lim ≤ decimal_value (front ++ (last ∷ []))

-- 'a foreign character', after digits for a number that is not too large
pub record Foreign (lim : ℕ) (s : List ℕ) : Type 0 where
  pub front : List ℕ
  pub byte : ℕ
  pub rest : List ℕ
  pub is : s ≡ front ++ (byte ∷ rest)
  pub digits : Digits front
  pub small : decimal_value front < lim
  pub foreign : is_digit byte ≡ false

-- What the answer to a number can be, and of which bytes.
pub data DigitAnswers (role : Role) (lim : ℕ) (s : List ℕ) : Read ℕ → Type 0 where
  reads : {v : ℕ} → Says lim s v → DigitAnswers role lim s (value v)
  over : PassesLimit lim s → DigitAnswers role lim s (refused 15)
  strange : (f : Foreign lim s) → DigitAnswers role lim s (refused (foreign role f.byte))

-- What the answer to a single number can be: '14 .. a foreign character or no digit'.
pub data SingleAnswers (lim : ℕ) : List ℕ → Read ℕ → Type 0 where
  empty : SingleAnswers lim [] (refused 14)
  some : {x : ℕ} {s : List ℕ} {r : Read ℕ} → DigitAnswers Single lim (x ∷ s) r → SingleAnswers lim (x ∷ s) r
