-- Numbers in decimal digits: one turn of the reading, and what reading means.
use mathlib.Core.Path.{◌≡◌, refl}
use mathlib.Core.Bool.{Bool, true, false, cond}
use mathlib.Core.List.{List, [], ◌∷◌}
use Prim.Native.Nat.{ℕ, ◌+◌, ◌-◌, ◌*◌, ◌≤◌, ◌<◌}
use native.Mathlib.Omega.{arith}
use lib.ListN.{length, drop}
use lib.Dec.{ltb}
use borrow.Author.Tests.{lt-ltb, le-ltb, ltb-true, ltb-false}
use Rattle.codes.specs.Machine.{Next, go, stop, run}
use Rattle.codes.proofs.Machine.{Leads, here, on, Ends, all, at, run_ends}
use Rattle.codes.specs.Answer.{Read, value, refused}
use Rattle.codes.specs.Bytes.{is_digit}
use Rattle.read_numbers.specs.declared.Role.{Role}
use Rattle.read_numbers.specs.declared.Role.TheVariants.{Single}
use Rattle.read_numbers.specs.Number.{foreign, digit, number, single}

-- one more byte
module _ (role : Role) (lim v x : ℕ) where
  pub digit-more : is_digit x ≡ true → v * 10 + (x - 48) < lim → digit role lim v x ≡ go (v * 10 + (x - 48))
  unfolding digit
  digit-more d h = rw (d, lt-ltb (v * 10 + (x - 48)) lim h)

  pub digit-over : is_digit x ≡ true → lim ≤ v * 10 + (x - 48) → digit role lim v x ≡ stop (refused 15)
  unfolding digit
  digit-over d h = rw (d, le-ltb (v * 10 + (x - 48)) lim h)

  pub digit-foreign : is_digit x ≡ false → digit role lim v x ≡ stop (refused (foreign role x))
  unfolding digit
  digit-foreign d = rw d

pub number-starts : (role : Role) (lim : ℕ) (s : List ℕ) → number role lim s ≡ run (digit role lim) value 0 (drop 0 s)
unfolding number
number-starts role lim s = refl

pub single-none : (lim : ℕ) (s : List ℕ) → length s ≡ 0 → single lim s ≡ refused 14
unfolding single
single-none lim [] h = refl
single-none lim (x ∷ s) h = absurd (omega arith)

pub single-some : (lim : ℕ) (s : List ℕ) → (length s ≡ 0 → ⊥) → single lim s ≡ number Single lim s
unfolding single
single-some lim [] h = absurd (h refl)
single-some lim (x ∷ s) h = refl

-- a step that goes on: it took a digit, and stayed below the limit
pub record Went (lim v x w : ℕ) : Type 0 where
  pub was_digit : is_digit x ≡ true
  pub is : w ≡ v * 10 + (x - 48)
  pub below : w < lim

-- a step that stops, by its refusal: a digit too many, or a byte that is no digit
pub data Stopped (role : Role) (lim v x : ℕ) : Read ℕ → Type 0 where
  over : is_digit x ≡ true → lim ≤ v * 10 + (x - 48) → Stopped role lim v x (refused 15)
  strange : is_digit x ≡ false → Stopped role lim v x (refused (foreign role x))

-- a step by its two tests
abbrev tested : ℕ → ℕ → Bool → Bool → Next ℕ (Read ℕ)
tested n w is_digit fits = cond is_digit (cond fits (go w) (stop (refused 15))) (stop (refused n))

module _ (role : Role) (lim v x : ℕ) where
  went-by : {w : ℕ} (b c : Bool) → is_digit x ≡ b → ltb (v * 10 + (x - 48)) lim ≡ c
      → tested (foreign role x) (v * 10 + (x - 48)) b c ≡ go w → Went lim v x w
  went-by {w} true true p q e =
      let k : w ≡ v * 10 + (x - 48) = cc in record { was_digit = p; is = k; below = rw k (ltb-true _ _ q) }
  went-by true false p q e = absurd (let z : ◌≡◌ {A = ℕ} 0 1 = cc in omega arith)
  went-by false c p q e = absurd (let z : ◌≡◌ {A = ℕ} 0 1 = cc in omega arith)

  pub went : {w : ℕ} → digit role lim v x ≡ go w → Went lim v x w
  unfolding digit
  went e = went-by (is_digit x) (ltb (v * 10 + (x - 48)) lim) refl refl e

  stopped_by : {r : Read ℕ} (b c : Bool) → is_digit x ≡ b → ltb (v * 10 + (x - 48)) lim ≡ c
      → tested (foreign role x) (v * 10 + (x - 48)) b c ≡ stop r → Stopped role lim v x r
  stopped_by true true p q e = absurd (let z : ◌≡◌ {A = ℕ} 0 1 = cc in omega arith)
  stopped_by {r} true false p q e = let k : refused 15 ≡ r = cc in rw (← k) (over p (ltb-false _ _ q))
  stopped_by {r} false c p q e = let k : refused (foreign role x) ≡ r = cc in rw (← k) (strange p)

  pub stopped : {r : Read ℕ} → digit role lim v x ≡ stop r → Stopped role lim v x r
  unfolding digit
  stopped e = stopped_by (is_digit x) (ltb (v * 10 + (x - 48)) lim) refl refl e

module _ (role : Role) (lim : ℕ) where
  leads-below : {v w : ℕ} {s : List ℕ} → Leads (digit role lim) value v s w → v < lim → w < lim
  leads-below here h = h
  leads-below (on {s = v} {x = x} e k) h = leads-below k (went role lim v x e).below

  no_value : {v x u : ℕ} {r : Read ℕ} → Stopped role lim v x r → r ≡ value u → ⊥
  no_value (over p q) e = let z : ◌≡◌ {A = ℕ} 0 1 = cc in omega arith
  no_value (strange p) e = let z : ◌≡◌ {A = ℕ} 0 1 = cc in omega arith

  ends-below : {s : List ℕ} {r : Read ℕ} {u : ℕ} → 0 < lim → Ends (digit role lim) value 0 s r → r ≡ value u → u < lim
  ends-below {u = u} h (all {t = t} k) e = let q : u ≡ t = cc in rw q (leads-below k h)
  ends-below h (at {t = t} p x m k l f) e = absurd (no_value (stopped role lim t x f) e)

  -- a value that is read lies below the limit
  pub number-below : (s : List ℕ) {u : ℕ} → 0 < lim → number role lim s ≡ value u → u < lim
  unfolding number
  number-below s h e = ends-below h (run_ends (digit role lim) value 0 s) e
