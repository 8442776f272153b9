-- The definition judges a number from left to right; these laws say what it answers by the bytes and the number they stand for.
use mathlib.Core.Path.{◌≡◌, refl}
use mathlib.Core.Bool.{true}
use mathlib.Core.List.{List, [], ◌∷◌, ◌++◌, map, map-append}
use mathlib.Core.Logic.{◌⊎◌, inl, inr}
use Prim.Native.Nat.{ℕ, ◌+◌, ◌-◌, ◌*◌, ◌<◌}
use native.Mathlib.Omega.{arith}
use Rattle.codes.proofs.Machine.{Leads, here, on, Ends, all, at, run_ends, ends-run}
use Rattle.codes.specs.Answer.{Read, value, refused}
use Rattle.codes.specs.Bytes.{is_digit}
use Rattle.read_numbers.specs.Value.{value_from, value_of}
use Rattle.read_numbers.specs.declared.Role.{Role}
use Rattle.read_numbers.specs.declared.Role.TheVariants.{Single}
use Rattle.read_numbers.specs.Number.{digit, number, single}
use Rattle.read_lines.specs.Each.{none, each}
use Rattle.read_numbers.specs.Digits.{Digits, digit_of, decimal_value, Says, PassesLimit, Foreign, DigitAnswers, reads, over, strange, SingleAnswers, empty, some}
use Rattle.read_numbers.proofs.Value.{value_grows, value-last}
use Rattle.read_numbers.proofs.Number.{digit-more, digit-over, digit-foreign, went, Stopped, stopped}
use Rattle.read_numbers.proofs.Number

-- The number of digits and one more.
pub decimal-last : (p : List ℕ) (x : ℕ) → decimal_value (p ++ (x ∷ [])) ≡ decimal_value p * 10 + (x - 48)
decimal-last p x = rw (map-append digit_of p (x ∷ [])) (value-last 10 (map digit_of p) (x - 48))

pub digits_last : {p : List ℕ} (x : ℕ) → Digits p → is_digit x ≡ true → Digits (p ++ (x ∷ []))
digits_last x none e = each e none
digits_last x (each d h) e = each d (digits_last x h e)

pub digits-split : (p : List ℕ) (x : ℕ) → Digits (p ++ (x ∷ [])) → Digits p × (is_digit x ≡ true)
digits-split [] x (each e none) = (none, e)
digits-split (y ∷ p) x (each d h) = let r = digits-split p x h in (each d r.0, r.1)

module _ (role : Role) (lim : ℕ) where
  -- Digits whose number lies below the limit are read as far.
  digits-on : {p : List ℕ} (v : ℕ) → Digits p → value_from 10 v (map digit_of p) < lim
      → Leads (digit role lim) value v p (value_from 10 v (map digit_of p))
  unfolding value_from
  digits-on v none h = here
  digits-on v (each {a = x} {l = p} d k) h =
      let g = value_grows 10 (v * 10 + (x - 48)) (map digit_of p) (omega arith) in
      on (digit-more role lim v x d (omega arith)) (digits-on (v * 10 + (x - 48)) k h)

  pub digits-lead : {p : List ℕ} → Digits p → decimal_value p < lim → Leads (digit role lim) value 0 p (decimal_value p)
  unfolding value_of
  digits-lead d h = digits-on 0 d h

  -- No other bytes are.
  on-digits : {v w : ℕ} {p : List ℕ} → v < lim → Leads (digit role lim) value v p w → Digits p × (value_from 10 v (map digit_of p) ≡ w) × (w < lim)
  unfolding value_from
  on-digits h here = (none, refl, h)
  on-digits h (on {s = v} {x = x} e k) =
      let w = went role lim v x e in
      let r = on-digits w.below k in (each w.was_digit r.0, rw w.is at r.1, r.2)

  pub lead-digits : {v : ℕ} {p : List ℕ} → 0 < lim → Leads (digit role lim) value 0 p v → Says lim p v
  unfolding value_of
  lead-digits h l = let r = on-digits h l in record { digits = r.0; value = r.1; small = r.2 }

  module _ (s : List ℕ) where
    -- What the bytes say is what is answered.
    answers-ends : {r : Read ℕ} → DigitAnswers role lim s r → Ends (digit role lim) value 0 s r
    answers-ends (reads a) = rw (← a.value) (all (digits-lead a.digits (rw a.value a.small)))
    answers-ends (over a) =
        let d = digits-split a.front a.last a.digits in
        at a.front a.last a.rest a.is (digits-lead d.0 a.small)
        (digit-over role lim _ a.last d.1 (rw (decimal-last a.front a.last) at a.over))
    answers-ends (strange a) =
        at a.front a.byte a.rest a.is (digits-lead a.digits a.small) (digit-foreign role lim _ a.byte a.foreign)

    pub answers_number : {r : Read ℕ} → DigitAnswers role lim s r → number role lim s ≡ r
    unfolding number
    answers_number a = ends-run (digit role lim) value (answers-ends a)

    -- The other way: every list of bytes has one of these answers, so each comes from such bytes and from no others.
    module _ (h : 0 < lim) where
      stopped-answers : {v : ℕ} (p : List ℕ) (x : ℕ) (m : List ℕ) {r : Read ℕ} → s ≡ p ++ (x ∷ m) → Says lim p v → Stopped role lim v x r → DigitAnswers role lim s r
      stopped-answers p x m k a (Number.over d q) =
          let e = decimal-last p x in
          over
          (record {
            front = p;
            last = x;
            rest = m;
            is = k;
            digits = digits_last x a.digits d;
            small = rw a.value a.small;
            over = rw (e, a.value) q;
          })
      stopped-answers p x m k a (Number.strange d) =
          strange
          (record { front = p; byte = x; rest = m; is = k; digits = a.digits; small = rw a.value a.small; foreign = d })

      ends-answers : {r : Read ℕ} → Ends (digit role lim) value 0 s r → DigitAnswers role lim s r
      ends-answers (all l) = reads (lead-digits h l)
      ends-answers (at {t = t} p x m k l f) = stopped-answers p x m k (lead-digits h l) (stopped role lim t x f)

      pub number-answers : DigitAnswers role lim s (number role lim s)
      unfolding number
      number-answers = ends-answers (run_ends (digit role lim) value 0 s)

      -- A value is read from digits for it only.
      pub number-exact : {v : ℕ} → number role lim s ≡ value v → Says lim s v
      number-exact e = of (rw e at number-answers)
        where
          of : {v : ℕ} → DigitAnswers role lim s (value v) → Says lim s v
          of (reads a) = a

-- '14 a single number has a foreign character or no digit.'
module _ (lim : ℕ) where
  pub answers-single : {s : List ℕ} {r : Read ℕ} → SingleAnswers lim s r → single lim s ≡ r
  unfolding single
  answers-single empty = refl
  answers-single (some a) = answers_number Single lim _ a

  module _ (h : 0 < lim) where
    pub single-answers : (s : List ℕ) → SingleAnswers lim s (single lim s)
    unfolding single
    single-answers [] = empty
    single-answers (x ∷ s) = some (number-answers Single lim (x ∷ s) h)

    module _ {s : List ℕ} where
      -- A single number is at least one digit, for a value below the limit,
      pub single-exact : {v : ℕ} → single lim s ≡ value v → Says lim s v × (s ≡ [] → ⊥)
      single-exact e = of (rw e at (single-answers s))
        where
          of : {m : List ℕ} {v : ℕ} → SingleAnswers lim m (value v) → Says lim m v × (m ≡ [] → ⊥)
          of (some (reads a)) = (a, λ z. let y : ◌≡◌ {A = ℕ} 0 1 = cc in omega arith)

      -- too large at the digit that takes it to the limit,
      pub single-over-exact : single lim s ≡ refused 15 → PassesLimit lim s
      single-over-exact e = of (rw e at (single-answers s)) refl
        where
          of : {m : List ℕ} {n : ℕ} → SingleAnswers lim m (refused n) → n ≡ 15 → PassesLimit lim m
          of empty z = absurd (omega arith)
          of (some (over a)) z = a
          of (some (strange a)) z = absurd (omega arith)

      -- and no number without a digit or at a foreign character.
      pub single-none-exact : single lim s ≡ refused 14 → (s ≡ []) ⊎ Foreign lim s
      single-none-exact e = of (rw e at (single-answers s)) refl
        where
          of : {m : List ℕ} {n : ℕ} → SingleAnswers lim m (refused n) → n ≡ 14 → (m ≡ []) ⊎ Foreign lim m
          of empty z = inl refl
          of (some (over a)) z = absurd (omega arith)
          of (some (strange a)) z = inr a
