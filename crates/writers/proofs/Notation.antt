-- Numbers written digit by digit, highest first, in any base: what decimal digits and 7-bit groups share.
use mathlib.Core.Path.{◌≡◌, sym, ◌∙◌}
use mathlib.Core.List.{List, ◌++◌}
use Prim.Native.Nat.{ℕ, zero, suc, ◌+◌, ◌*◌, ◌/◌, ◌%◌, ◌^◌, ◌≤◌, ◌<◌}
use native.Mathlib.Omega.{arith}
use native.Mathlib.Decide.{dec_lt}
use native.Mathlib.Nat.{div-lt_iff_lt-mul, pow-zero, pow-suc, one-mul, mul-suc}
use lib.ListN.{length, length-append}
use Rattle.writers.specs.Written.{Wrote}
use Rattle.writers.proofs.Sets.{wrote_then}

-- `digit more d` is what is written for a digit d; `more` is 1 where further digits follow. `bytes k more n` is what is written for a
-- number, with room for k digits and one more: its only digit, or what is written without its last digit, and then that.
pub record Notation (base : ℕ) (digit : ℕ → ℕ → List ℕ) (bytes : ℕ → ℕ → ℕ → List ℕ) : Type 0 where
  pub positive : 0 < base
  pub least : (more n : ℕ) → bytes 0 more n ≡ digit more n
  pub one : (k more n : ℕ) → n < base → bytes (suc k) more n ≡ digit more n
  pub next : (k more n : ℕ) → base ≤ n → bytes (suc k) more n ≡ bytes k 1 (n / base) ++ digit more (n % base)

module _ {base : ℕ} {digit : ℕ → ℕ → List ℕ} {bytes : ℕ → ℕ → ℕ → List ℕ} (s : Notation base digit bytes) where
  cases : (k more n : ℕ) (P : List ℕ → Type 0) → (n < base → P (digit more n)) → (base ≤ n → P (bytes k 1 (n / base) ++ digit more (n % base)))
      → P (bytes (suc k) more n)
  cases k more n P one next = go (dec_lt n base)
    where
      go : Dec (n < base) → P (bytes (suc k) more n)
      go (yes h) = rw (s.one k more n h) (one h)
      go (no h) = let l : base ≤ n = omega arith in rw (s.next k more n l) (next l)

  -- a number below base ^ k has at most k digits: one where k is 1, and one less without its last
  only : (n : ℕ) → n < base ^ 1 → n < base
  only n h = rw (pow-suc base 0, pow-zero base, one-mul base) at h

  shorter : (k n : ℕ) → n < base ^ suc k → n / base < base ^ k
  shorter k n h = (div-lt_iff_lt-mul {k = base} {x = n} {y = base ^ k} s.positive).1 (rw (← (pow-suc base k)) h)

  -- One digit is written whatever the room.
  pub written_one : (k more n : ℕ) → n < base → bytes k more n ≡ digit more n
  written_one zero more n h = s.least more n
  written_one (suc k) more n h = s.one k more n h

  -- More room than is needed changes nothing,
  enough : (k more n : ℕ) → n < base ^ suc k → bytes (suc k) more n ≡ bytes k more n
  enough zero more n h = s.one 0 more n (only n h) ∙ sym (s.least more n)
  enough (suc k) more n h =
      cases (suc k) more n (λ (w : List ℕ). w ≡ bytes (suc k) more n) (λ l. sym (s.one k more n l))
      (λ l. rw (enough k 1 (n / base) (shorter (suc k) n h)) (sym (s.next k more n l)))

  -- so a number's last digit is written after a number with the same room.
  module _ (k more n : ℕ) (h : base ≤ n) (l : n < base ^ suc k) where
    pub written_last : bytes k more n ≡ bytes k 1 (n / base) ++ digit more (n % base)
    written_last = sym (enough k more n l) ∙ s.next k more n h

    pub length_last : length (bytes k more n) ≡ length (bytes k 1 (n / base)) + length (digit more (n % base))
    length_last = rw written_last (length-append (bytes k 1 (n / base)) (digit more (n % base)))

    pub wrote-last : (old : List ℕ) (at : ℕ) {m out : List ℕ} {i j : ℕ} → Wrote old at (bytes k 1 (n / base)) i m → Wrote m i (digit more (n % base)) j out
        → Wrote old at (bytes k more n) j out
    wrote-last old at p q = rw written_last (wrote_then old at (bytes k 1 (n / base)) (digit more (n % base)) p q)

  -- A property of what is written for a digit that goes on with one more.
  module _ (P : ℕ → ℕ → List ℕ → Type 0) (first : (more n : ℕ) → n < base → P more n (digit more n))
      (further : (more n : ℕ) (w : List ℕ) → base ≤ n → P 1 (n / base) w → P more n (w ++ digit more (n % base))) where
    pub written-by : (k more n : ℕ) → n < base ^ suc k → P more n (bytes k more n)
    written-by zero more n h = rw (s.least more n) (first more n (only n h))
    written-by (suc k) more n h =
        cases k more n (P more n) (first more n) (λ l. further more n _ l (written-by k 1 (n / base) (shorter (suc k) n h)))

  -- Something is written.
  pub written-some : ((more d : ℕ) → 1 ≤ length (digit more d)) → (k more n : ℕ) → 1 ≤ length (bytes k more n)
  written-some some zero more n = rw (s.least more n) (some more n)
  written-some some (suc k) more n =
      cases k more n (λ (w : List ℕ). 1 ≤ length w) (λ l. some more n) (λ l. simp length-append (omega (arith, some more (n % base))))

  -- Where at most c bytes are written for a digit, a number below base ^ k takes at most c * k.
  pub written-short : (c : ℕ) → ((more d : ℕ) → length (digit more d) ≤ c) → (j k more n : ℕ) → n < base ^ k → 1 ≤ k → length (bytes j more n) ≤ c * k
  written-short c few j zero more n h p = absurd (omega arith)
  written-short c few zero (suc k) more n h p = rw (s.least more n, mul-suc c k) (omega (arith, few more n))
  written-short c few (suc j) (suc zero) more n h p = rw (s.one j more n (only n h)) (omega (arith, few more n))
  written-short c few (suc j) (suc (suc k)) more n h p =
      let l = written-short c few j (suc k) 1 (n / base) (shorter (suc k) n h) (omega arith) in
      rw (mul-suc c (suc k))
      (cases j more n (λ (w : List ℕ). length w ≤ c * suc k + c) (λ b. omega (arith, few more n)) (λ b. simp length-append (omega (arith, few more (n % base)))))
