-- Bytes at a position, by cases, and a number by its next byte: what the proofs of `decode_7bit` and of the writers cite. Document 01,
-- 'Node lines'. What numbers are is in `Groups`.
use mathlib.Core.Path.{◌≡◌, refl, ◌∙◌}
use mathlib.Core.Bool.{Bool, true, false, cond}
use mathlib.Core.List.{List}
use mathlib.Core.Logic.{◌⊎◌, inl, inr}
use Prim.Native.Nat.{ℕ, zero, suc, pred, ◌+◌, ◌*◌, ◌/◌, ◌%◌, ◌^◌, ◌≤◌, ◌<◌}
use native.Mathlib.Omega.{arith}
use lib.ListN.{length, get_or}
use lib.Dec.{ltb, eqb}
use borrow.Author.Tests.{ltb-true, lt-ltb, le-ltb, eq-eqb, ne_eqb}
use Rattle.codes.specs.Answer.{Step, got, fails, then}
use Rattle.read_binary.specs.Binary.{meant, byte_at, grouped, groups_from, number_at}

-- A byte, by the test that decides what it is: past the end, as it is, cut after a 00, or escaped.
module _ (f : List ℕ) (at : ℕ) where
  pub byte_past : length f ≤ at → byte_at f at ≡ fails 30
  unfolding byte_at
  byte_past h = rw (le-ltb at (length f))

  module _ (h : at < length f) where
    pub byte-plain : (get_or f at 0 ≡ 0 → ⊥) → byte_at f at ≡ got (get_or f at 0) (at + 1)
    unfolding byte_at
    byte-plain n = rw (lt-ltb at (length f), ne_eqb (get_or f at 0) 0)

    module _ (z : get_or f at 0 ≡ 0) where
      pub byte_cut : length f ≤ at + 1 → byte_at f at ≡ fails 30
      unfolding byte_at
      byte_cut e = rw (lt-ltb at (length f), eq-eqb (get_or f at 0) 0, le-ltb (at + 1) (length f))

      pub byte-escaped : {s : Step ℕ} → at + 1 < length f → meant (get_or f (at + 1) 0) (at + 2) ≡ s → byte_at f at ≡ s
      unfolding byte_at
      byte-escaped k e = rw (lt-ltb at (length f), eq-eqb (get_or f at 0) 0, lt-ltb (at + 1) (length f), e)

-- What stands for 00, 0a, 0d and 1a, and that nothing else may follow a 00.
module _ {x : ℕ} (next : ℕ) where
  pub meant-00 : x ≡ 0 → meant x next ≡ got 0x00 next
  unfolding meant
  meant-00 e = rw e

  pub meant-0a : x ≡ 1 → meant x next ≡ got 0x0a next
  unfolding meant
  meant-0a e = rw e

  pub meant-0d : x ≡ 2 → meant x next ≡ got 0x0d next
  unfolding meant
  meant-0d e = rw e

  pub meant-1a : x ≡ 3 → meant x next ≡ got 0x1a next
  unfolding meant
  meant-1a e = rw e

  pub meant-bad : (x ≡ 0 → ⊥) → (x ≡ 1 → ⊥) → (x ≡ 2 → ⊥) → (x ≡ 3 → ⊥) → meant x next ≡ fails 37
  unfolding meant
  meant-bad a b c d = rw (ne_eqb x 0, ne_eqb x 1, ne_eqb x 2, ne_eqb x 3)

-- What a byte's answer can be: a byte that ends past its start and within the file, 30, or 37.
pub data ByteAnswer (f : List ℕ) (at : ℕ) : Step ℕ → Type 0 where
  read : {b next : ℕ} → at < next → next ≤ length f → ByteAnswer f at (got b next)
  early : ByteAnswer f at (fails 30)
  bad : ByteAnswer f at (fails 37)

module _ {f : List ℕ} {at : ℕ} where
  meant-answer : (x next : ℕ) → at < next → next ≤ length f → ByteAnswer f at (meant x next)
  unfolding meant
  meant-answer x next a b = go (eqb x 0) (eqb x 1) (eqb x 2) (eqb x 3)
    where
      go : (p q r s : Bool) → ByteAnswer f at (cond p (got 0x00 next) (cond q (got 0x0a next) (cond r (got 0x0d next) (cond s (got 0x1a next) (fails 37)))))
      go true q r s = read a b
      go false true r s = read a b
      go false false true s = read a b
      go false false false true = read a b
      go false false false false = bad

pub byte-answer : (f : List ℕ) (at : ℕ) → ByteAnswer f at (byte_at f at)
unfolding byte_at
byte-answer f at = go (ltb at (length f)) refl (eqb (get_or f at 0) 0) (ltb (at + 1) (length f)) refl
  where
    go : (p : Bool) → ltb at (length f) ≡ p → (q r : Bool) → ltb (at + 1) (length f) ≡ r
        → ByteAnswer f at (cond p (cond q (cond r (meant (get_or f (at + 1) 0) (at + 2)) (fails 30)) (got (get_or f at 0) (at + 1))) (fails 30))
    go true e true true k = meant-answer (get_or f (at + 1) 0) (at + 2) (omega arith) (omega (arith, ltb-true))
    go true e true false k = early
    go true e false r k = read {next = at + 1} (omega arith) (omega (arith, ltb-true))
    go false e q r k = early

module _ (f : List ℕ) (at : ℕ) where
  -- A byte ends past its start and within the file.
  pub byte-within : {b next : ℕ} → byte_at f at ≡ got b next → (at < next) × (next ≤ length f)
  byte-within e = of (rw e at (byte-answer f at))
    where
      of : {b next : ℕ} → ByteAnswer f at (got b next) → (at < next) × (next ≤ length f)
      of (read a z) = (a, z)

  -- A byte is refused by 30 or 37.
  pub byte-refused : {n : ℕ} → byte_at f at ≡ fails n → (n ≡ 30) ⊎ (n ≡ 37)
  byte-refused e = of (rw e at (byte-answer f at))
    where
      of : {n : ℕ} → ByteAnswer f at (fails n) → (n ≡ 30) ⊎ (n ≡ 37)
      of early = inl refl
      of bad = inr refl

-- A group begins with a byte, where the fuel lasts to the end of the file.
groups-turn : (fuel : ℕ) (f : List ℕ) (v at : ℕ) → length f ≤ at + fuel
    → groups_from fuel f v at ≡ then (byte_at f at) (λ b next. grouped v b next (λ w m. groups_from (pred fuel) f w m))
unfolding groups_from
groups-turn zero f v at h = rw (byte_past f at (omega arith))
groups-turn (suc fuel) f v at h = refl

-- A number after some groups: the number at `at` is what stands from i on, above the value v of the groups before.
pub record Going (f : List ℕ) (at v i : ℕ) : Type 0 where
  pub fuel : ℕ
  pub enough : length f ≤ i + fuel
  pub rest : number_at f at ≡ groups_from fuel f v i

pub number-going : (f : List ℕ) (at : ℕ) → Going f at 0 at
unfolding number_at
number-going f at = record { fuel = length f; enough = omega arith; rest = refl }

-- The number by its next byte, in the order of the definition's tests.
module _ {f : List ℕ} {at v i : ℕ} (g : Going f at v i) where
  turned : number_at f at ≡ then (byte_at f i) (λ b next. grouped v b next (λ w m. groups_from (pred g.fuel) f w m))
  turned = g.rest ∙ groups-turn g.fuel f v i g.enough

  pub going-refused : {n : ℕ} → byte_at f i ≡ fails n → number_at f at ≡ fails n
  going-refused e = turned ∙ rw e

  module _ {b next : ℕ} (e : byte_at f i ≡ got b next) where
    pub going-over : 2 ^ 64 ≤ v * 128 + b / 2 → number_at f at ≡ fails 38
    going-over l = turned ∙ rw (e, le-ltb (v * 128 + b / 2) (2 ^ 64))

    module _ (s : v * 128 + b / 2 < 2 ^ 64) where
      pub going-last : b % 2 ≡ 0 → number_at f at ≡ got (v * 128 + b / 2) next
      going-last z = turned ∙ rw (e, lt-ltb (v * 128 + b / 2) (2 ^ 64), eq-eqb (b % 2) 0)

      pub going_more : (b % 2 ≡ 0 → ⊥) → Going f at (v * 128 + b / 2) next
      going_more z =
          let w = byte-within f i e in record {
            fuel = pred g.fuel;
            enough = omega (arith, g.enough);
            rest = turned ∙ rw (e, lt-ltb (v * 128 + b / 2) (2 ^ 64), ne_eqb (b % 2) 0);
          }
