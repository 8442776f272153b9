-- The words of a written text line: which bytes they have, and where a reader finds them.
use mathlib.Core.Path.{◌≡◌, refl, sym, ap}
use mathlib.Core.Bool.{Bool, true, false}
use mathlib.Core.List.{List, [], ◌∷◌, ◌++◌}
use Prim.Native.Nat.{ℕ, zero, suc, ◌+◌, ◌^◌, ◌≤◌, ◌<◌}
use native.Mathlib.Omega.{arith}
use lib.ListN.{length, get_or, drop}
use lib.Seq.{drop-append_seam}
use lib.IntN.{ℤ, nat_abs}
use borrow.Author.Tests.{ne_eqb}
use Rattle.codes.specs.Answer.{got}
use Rattle.codes.specs.Bytes.{is_blank, is_line_end}
use Rattle.codes.proofs.Bytes.{digit-bounds}
use Rattle.edges.specs.Edge.{minus}
use Rattle.read_lines.specs.Each.{Each, none, each}
use Rattle.read_lines.specs.Line.{is_of}
use Rattle.read_numbers.specs.Number.{first}
use Rattle.read_lines.specs.Spaced.{Text, next}
use Rattle.read_lines.specs.declared.Class.TheVariants.{Feed, LineEnd, Blank, NonBlank}
use Rattle.read_lines.proofs.Spaced.{spaced-words, words-spaced}
use Rattle.line_words.specs.Words.{word_from, variable_word}
use Rattle.line_words.proofs.WordEnds.{word-ends, number-right, extra-none, variable-found}
use Rattle.writers.specs.Decimal.{decimal, edge_text}
use Rattle.writers.proofs.Decimal.{decimal-some, decimal-digits, decimal-single, edge-plain, edge-minus}
use Rattle.reading_nodes.proofs.Standing.{stands_after, stands-inside, seek-over}

-- a property that follows from another
each-as : {A : Type 0} {P Q : A → Type 0} {l : List A} → ((a : A) → P a → Q a) → Each P l → Each Q l
each-as f none = none
each-as f (each {a = a} p k) = each (f a p) (each-as f k)

-- Each byte is at least k. From 33 on none is a blank, and from 32 on none ends a line.
abbrev pub From : ℕ → List ℕ → Type 0
From k w = Each (λ x. k ≤ x) w

-- one after the other
pub from-append : {k : ℕ} {v w : List ℕ} → From k v → From k w → From k (v ++ w)
from-append none h = h
from-append (each p g) h = each p (from-append g h)

-- what has no blank has no line end
pub from_less : {w : List ℕ} → From 33 w → From 32 w
from_less h = each-as (λ x k. omega arith) h

-- no blank
text-byte : (x : ℕ) → 33 ≤ x → is_blank x ≡ false
unfolding is_blank
text-byte x h = rw (ne_eqb x 32 (λ e. omega arith), ne_eqb x 9 (λ e. omega arith))

-- so a search for a line feed goes over them,
pub no-feeds : {w : List ℕ} → From 32 w → Each (λ x. is_of Feed x ≡ false) w
unfolding is_of
no-feeds h = each-as (λ x k. ne_eqb x 10 (λ e. omega arith)) h

-- and none of them is trimmed from the end of a line
pub no-line-end : (w : List ℕ) (i : ℕ) → From 32 w → i < length w → is_of LineEnd (get_or w i 0) ≡ false
unfolding is_of is_line_end
no-line-end [] i none l = absurd (omega arith)
no-line-end (x ∷ w) zero (each h k) l = rw (ne_eqb x 10 (λ e. omega arith), ne_eqb x 13 (λ e. omega arith))
no-line-end (x ∷ w) (suc i) (each h k) l = no-line-end w i k (omega arith)

-- Numbers have no blank,
pub decimal-from : (n : ℕ) → n < 2 ^ 64 → From 33 (decimal n)
decimal-from n h = each-as (λ x d. omega (arith, digit-bounds x d)) (decimal-digits n h)

-- and edges have none.
pub edge-from : (e : ℤ) → nat_abs e < 2 ^ 63 → From 33 (edge_text e)
edge-from e h = go (minus e) refl
  where
    go : (b : Bool) → minus e ≡ b → From 33 (edge_text e)
    go true k = rw (edge-minus e refl k) (each {a = 0x2d} (omega arith) (decimal-from (nat_abs e) (omega arith)))
    go false k = rw (edge-plain e refl k) (decimal-from (nat_abs e) (omega arith))

-- Each is a word.
decimal-text : (n : ℕ) → n < 2 ^ 64 → Text (decimal n)
decimal-text n h = record { some = λ z. omega (arith, decimal-some n, ap length z); free = each-as text-byte (decimal-from n h) }

pub edge-text : (e : ℤ) → nat_abs e < 2 ^ 63 → Text (edge_text e)
edge-text e h = record { some = some (minus e) refl; free = each-as text-byte (edge-from e h) }
  where
    some : (b : Bool) → minus e ≡ b → edge_text e ≡ [] → ⊥
    some true k z = omega (arith, ap length (sym (edge-minus e refl k)), ap length z)
    some false k z = omega (arith, decimal-some (nat_abs e), ap length (sym (edge-plain e refl k)), ap length z)

-- A line that begins with a number and a space has that number.
first_back : (n : ℕ) (r : List ℕ) → n < 2 ^ 64 → got n (length (decimal n)) ≡ first (2 ^ 64) (decimal n ++ (0x20 ∷ r))
unfolding first is_blank
first_back n r h =
    let k : 0 + 0 + length (decimal n) ≡ length (decimal n) = omega arith in
    sym (rw (
      spaced-words (next {at = 0} [] (decimal n) none (decimal-text n h) refl (words-spaced (0 + 0 + length (decimal n)) (0x20 ∷ r))),
      decimal-single n h (2 ^ 64) h,
      k,
    ))

-- A word between two spaces is found.
word_back : (s : List ℕ) (at : ℕ) (w r : List ℕ) → 1 ≤ length w → From 33 w → drop at s ≡ 0x20 ∷ (w ++ (0x20 ∷ r))
    → got (at + 1) (at + 1 + length w) ≡ word_from s at
unfolding is_of is_blank
word_back s at [] r h f e = absurd (omega arith)
word_back s at (x ∷ w) r h (each k f) e =
    let here : drop (at + 1) s ≡ x ∷ (w ++ (0x20 ∷ r)) = stands_after s at (0x20 ∷ []) (x ∷ (w ++ (0x20 ∷ r))) e in
    word-ends s at (at + 1) (at + 1 + length (x ∷ w))
    (sym (seek-over (is_of NonBlank) s at x (w ++ (0x20 ∷ r)) (each refl none) (rw (text-byte x k)) e))
    (sym (seek-over (is_of Blank) s (at + 1) 0x20 r (each-as text-byte (each k f)) refl here))
    (stands-inside s (at + 1) (x ∷ w) 0x20 r here)

-- A line of a number and a word has that word for its variable.
pub variable-back : (n : ℕ) (w r : List ℕ) → n < 2 ^ 64 → 1 ≤ length w → From 33 w
    → got (length (decimal n) + 1) (length (decimal n) + 1 + length w) ≡ variable_word false n (decimal n ++ (0x20 ∷ (w ++ (0x20 ∷ r))))
variable-back n w r h l f =
    let s = decimal n ++ (0x20 ∷ (w ++ (0x20 ∷ r))) in
    variable-found false n s (number-right n s (first_back n (w ++ (0x20 ∷ r)) h) refl) (extra-none false s (length (decimal n)) refl)
    (word_back s (length (decimal n)) w r l f (drop-append_seam (decimal n) (0x20 ∷ (w ++ (0x20 ∷ r)))))
