-- Numbers in decimal digits: what is written digit by digit, and that it is read back.
use mathlib.Core.Path.{◌≡◌, refl, ap, ◌∙◌}
use mathlib.Core.Bool.{Bool, true, false, cond}
use mathlib.Core.List.{List, [], ◌∷◌}
use Prim.Native.Nat.{ℕ, suc, ◌+◌, ◌/◌, ◌%◌, ◌^◌, ◌≤◌, ◌<◌}
use native.Mathlib.Omega.{arith}
use lib.ListN.{length, set}
use lib.IntN.{ℤ, pos, negsuc, nat_abs}
use borrow.Author.Tests.{lt-ltb, le-ltb, le-leb}
use Rattle.codes.specs.Answer.{value}
use Rattle.codes.specs.Bytes.{is_digit}
use Rattle.edges.specs.Edge.{minus}
use Rattle.read_lines.specs.Each.{none, each}
use Rattle.read_numbers.specs.Value.{value_from, value_of}
use Rattle.read_numbers.specs.declared.Role.{Role}
use Rattle.read_numbers.specs.declared.Role.TheVariants.{Single}
use Rattle.read_numbers.specs.Number.{number, single}
use Rattle.read_numbers.specs.Digits.{Digits, Says, reads}
use Rattle.read_numbers.specs.Digits as read
use Rattle.read_edges.specs.Edges.{signed}
use Rattle.read_edges.specs.Entries.{Signed}
use Rattle.read_numbers.proofs.Number.{single-some}
use Rattle.read_numbers.proofs.Digits.{decimal-last, digits_last, answers_number}
use Rattle.writers.specs.Decimal.{digits, decimal, edge_text}
use Rattle.writers.specs.Written.{Wrote}
use Rattle.writers.proofs.Sets.{wrote-byte}
use Rattle.writers.proofs.Notation.{Notation, written_one, wrote-last, length_last, written-some, written-short, written-by}

-- Decimal digits are written in base ten, whatever follows.
in-ten : Notation 10 (λ more d. (48 + d) ∷ []) (λ k more n. digits k n)
unfolding digits
in-ten =
    record {
      positive = omega arith;
      least = λ more n. refl;
      one = λ k more n h. rw (lt-ltb n 10 h, digits);
      next = λ k more n h. rw (le-ltb n 10 h, digits);
    }

-- What the code writes: the one digit, or the last after those of the tenth.
module _ (n : ℕ) (old : List ℕ) (at : ℕ) where
  pub put_one : {d : ℕ} → n < 10 → d ≡ 48 + n → Wrote old at (decimal n) (at + 1) (set old at d)
  unfolding decimal
  put_one h e = rw (written_one in-ten 19 0 n h, e) (wrote-byte old at _)

  pub put-more : {m : List ℕ} {end d : ℕ} → 10 ≤ n → n < 2 ^ 64 → Wrote old at (decimal (n / 10)) end m → d ≡ 48 + n % 10
      → Wrote old at (decimal n) (end + 1) (set m end d)
  unfolding decimal
  put-more h s w e = rw e (wrote-last in-ten 19 0 n h (omega arith) old at w (wrote-byte _ _ _))

module _ (n : ℕ) where
  pub length-one : n < 10 → length (decimal n) ≡ 1
  unfolding decimal
  length-one h = rw (written_one in-ten 19 0 n h)

  pub length_more : 10 ≤ n → n < 2 ^ 64 → length (decimal n) ≡ length (decimal (n / 10)) + 1
  unfolding decimal
  length_more h s = length_last in-ten 19 0 n h (omega arith)

  -- There is a digit, and below 10 ^ k there are at most k.
  pub decimal-some : 1 ≤ length (decimal n)
  unfolding decimal
  decimal-some = written-some in-ten (λ more d. omega arith) 19 0 n

  pub decimal-short : (k : ℕ) → n < 10 ^ k → 1 ≤ k → length (decimal n) ≤ k
  unfolding decimal
  decimal-short k h l = omega (arith, written-short in-ten 1 (λ more d. omega arith) 19 k 0 n h l)

-- They are digits and stand for the number,
digit-is : (d : ℕ) → d < 10 → is_digit (48 + d) ≡ true
unfolding is_digit
digit-is d h = rw (le-leb 48 (48 + d) (omega arith), le-leb (48 + d) 57 (omega arith))

digits-read : (k more n : ℕ) → n < 10 ^ suc k → Digits (digits k n) × (read.decimal_value (digits k n) ≡ n)
unfolding value_of value_from
digits-read =
    written-by in-ten (λ more n w. Digits w × (read.decimal_value w ≡ n)) (λ more n l. (each (digit-is n l) none, omega arith))
    (λ more n w l p. (digits_last (48 + n % 10) p.0 (digit-is (n % 10) (omega arith)), decimal-last w (48 + n % 10) ∙ rw p.1 (omega arith)))

module _ (n : ℕ) (h : n < 2 ^ 64) where
  pub decimal-digits : Digits (decimal n)
  unfolding decimal
  decimal-digits = (digits-read 19 0 n (omega arith)).0

  module _ (lim : ℕ) (l : n < lim) where
    pub decimal-says : Says lim (decimal n) n
    unfolding decimal
    decimal-says = record { digits = decimal-digits; value = (digits-read 19 0 n (omega arith)).1; small = l }

    -- so it is read back, in a list or by itself.
    pub decimal-value : (role : Role) → number role lim (decimal n) ≡ value n
    decimal-value role = answers_number role lim (decimal n) (reads decimal-says)

    pub decimal-single : single lim (decimal n) ≡ value n
    decimal-single = single-some lim (decimal n) (λ z. omega (arith, decimal-some n)) ∙ decimal-value Single

-- An edge is written as a minus, where it has one, and its magnitude.
module _ (e : ℤ) {m : ℕ} (p : m ≡ nat_abs e) where
  pub edge-minus : minus e ≡ true → edge_text e ≡ 0x2d ∷ decimal m
  unfolding edge_text
  edge-minus h = rw (h, p)

  pub edge-plain : minus e ≡ false → edge_text e ≡ decimal m
  unfolding edge_text
  edge-plain h = rw (h, p)

-- Its sign and its magnitude are all that there is of it.
pub edge-signed : (e : ℤ) → signed (minus e) (nat_abs e) ≡ e
unfolding minus
edge-signed (pos n) = refl
edge-signed (negsuc n) = refl

-- It is an entry of an edge list: the minus, where there is one, touches its digit.
pub edge-says : (e : ℤ) → nat_abs e < 2 ^ 63 → Signed (edge_text e) (minus e) (nat_abs e)
unfolding edge_text
edge-says e h =
    record {
      digits = decimal (nat_abs e);
      is = refl;
      some = λ z. omega (arith, decimal-some (nat_abs e), ap length z);
      says = decimal-says (nat_abs e) (omega arith) (2 ^ 63) h;
    }

-- It has at most one byte more than its magnitude has digits.
pub edge-short : (k : ℕ) (e : ℤ) → nat_abs e < 10 ^ k → 1 ≤ k → length (edge_text e) ≤ k + 1
unfolding edge_text
edge-short k e h l = go (minus e)
  where
    go : (m : Bool) → length (cond m (0x2d ∷ decimal (nat_abs e)) (decimal (nat_abs e))) ≤ k + 1
    go true = omega (arith, decimal-short (nat_abs e) k h l)
    go false = omega (arith, decimal-short (nat_abs e) k h l)
