-- Laws of the words of a line: where they end, and the line's number before them.
use mathlib.Core.Path.{◌≡◌, refl, ◌∙◌}
use mathlib.Core.Bool.{Bool, false}
use mathlib.Core.List.{List}
use Prim.Native.Nat.{ℕ, ◌-◌, ◌^◌, ◌≤◌, ◌<◌}
use native.Mathlib.Omega.{arith}
use lib.ListN.{length, take, drop}
use borrow.Author.Tests.{lt-ltb, eq-eqb}
use Rattle.codes.specs.Answer.{Read, value, refused, Step, got}
use Rattle.read_lines.specs.Line.{is_of, seek}
use Rattle.read_numbers.specs.Number.{single, ends_at, first}
use Rattle.read_lines.specs.declared.Class.TheVariants.{Blank, NonBlank}
use Rattle.read_lines.proofs.Searches.{found}
use Rattle.read_numbers.proofs.Words.{first_word}
use Rattle.line_words.specs.Words.{word_from, numbered, after_extra, variable_word}

-- A word's start and end, each found by a search.
module _ (s : List ℕ) (at start end : ℕ) (a : start ≡ seek (is_of NonBlank) s at (length s - at))
    (b : end ≡ seek (is_of Blank) s start (length s - start)) where
  -- a blank ends it
  pub word-ends : end < length s → got start end ≡ word_from s at
  unfolding word_from
  word-ends h = rw (← a, ← b, lt-ltb end (length s) h)

-- a number's end is that of its word
ends_same : (end : ℕ) (r : Read ℕ) {v at : ℕ} → got v at ≡ ends_at end r → at ≡ end
ends_same end (value w) e = cc
ends_same end (refused n) e = absurd (let z : ◌≡◌ {A = ℕ} 0 1 = cc in omega arith)

-- the position after a line's first number lies inside the line
pub first-within : (lim : ℕ) (s : List ℕ) {v at : ℕ} → got v at ≡ first lim s → at ≤ length s
first-within lim s e =
    let i = seek (is_of NonBlank) s 0 (length s - 0) in
    let j = seek (is_of Blank) s i (length s - i) in
    let q = ends_same j (single lim (take (j - i) (drop i s))) (e ∙ first_word lim s i j refl refl) in
    omega (arith, (found (is_of NonBlank) s (length s - 0) 0).high, (found (is_of Blank) s (length s - i) i).high, q)

-- a line that begins with the expected number
pub number-right : (n : ℕ) (s : List ℕ) {v at : ℕ} → got v at ≡ first (2 ^ 64) s → v ≡ n → got at at ≡ numbered n s
unfolding numbered
number-right n s {v} e h = rw (← e, eq-eqb v n h)

-- no word more
pub extra-none : (extra : Bool) (s : List ℕ) (at : ℕ) → extra ≡ false → got at at ≡ after_extra extra s at
unfolding after_extra
extra-none extra s at h = rw h

-- the variable word stands after the number and the extra word
pub variable-found : (extra : Bool) (n : ℕ) (s : List ℕ) {v at w next : ℕ} → got v at ≡ numbered n s → got w next ≡ after_extra extra s at
    → {r : Step ℕ} → r ≡ word_from s next → r ≡ variable_word extra n s
unfolding variable_word
variable-found extra n s e f g = rw (← e, ← f) g
