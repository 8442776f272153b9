-- Lists: their entries, judged from left to right.
use Rattle.std.specs.Prelude.{ℕ, ◌^◌, List, [], ◌∷◌, ◌++◌, true, false, length, ltb}
use Rattle.codes.specs.Answer.{Read, value, refused}
use Rattle.read_lines.specs.Words.{Word, words}
use Rattle.read_numbers.specs.declared.Role.TheVariants.{Entry}
use Rattle.read_numbers.specs.Number.{number}

-- what a list reads as: the number of its entries or a refusal, and the entries up to there
pub record Listed (A : Type 0) : Type 0 where
  pub answer : Read ℕ
  pub entries : List A

abbrev pub listed : {A : Type 0} → Read ℕ → List A → Listed A
listed a es = record { answer = a; entries = es }

-- One more entry after the entries es. '19 over a limit. .. an entry's own fault before the count.'
abbrev pub another : {A R : Type 0} → ℕ → List A → A → (List A → R) → (List A → R) → R
another max es a go_on full = elim (ltb (length es) max) [ true ↦ go_on (es ++ (a ∷ [])) | false ↦ full es ]

abbrev pub judged : {A : Type 0} → ℕ → List A → Read A → (List A → Listed A) → Listed A
judged max es (value a) go_on = another max es a go_on (listed (refused 19))
judged max es (refused n) go_on = listed (refused n) es

-- 'Entries of a line are judged left to right': the entries that words stand for, after the entries es, at most max in all
unfoldable pub judge : {A : Type 0} → (Word → Read A) → ℕ → List A → List Word → Listed A
judge read max es [] = listed (value (length es)) es
judge read max es (w ∷ ws) = judged max es (read w) (λ fs. judge read max fs ws)

-- A list of unsigned numbers. '15 .. over 32 in other unsigned ones', '16 a list has a foreign character'.
abbrev pub u32_of : Word → Read ℕ
u32_of w = number Entry (2 ^ 32) w.bytes

unfoldable pub u32_list : ℕ → List ℕ → Listed ℕ
u32_list max s = judge u32_of max [] (words 0 s)
