-- The lowest level with a property is found, and what is found is the lowest.
use Prim.Native.Nat.{ℕ, zero, suc, ◌+◌, ◌≤◌, ◌<◌}
use mathlib.Core.Path.{◌≡◌, refl, sym, ap, ◌∙◌}
use mathlib.Core.Bool.{Bool, true, false, cond, true≢false}
use native.Mathlib.Omega.{arith}
use native.Mathlib.Decide.{ℕ_discrete}
use Rattle.codes.specs.Answer.{Read, value, refused}
use Rattle.tipping.specs.Tip.{lowest_from}
use Rattle.tipping.specs.Lowest.{IsLowest, NoneBelow}

-- a value is no refusal
abbrev is_value : Read ℕ → Bool
is_value (value x) = true
is_value (refused n) = false

abbrev value_or : Read ℕ → ℕ
value_or (value x) = x
value_or (refused n) = n

module _ (p : ℕ → Bool) where
  -- l is the lowest of n levels from k on, or none of them has the property
  pub record LowestIn (k n l : ℕ) : Type 0 where
    pub from : k ≤ l
    pub low : l < k + n
    pub holds : p l ≡ true
    pub least : (j : ℕ) → k ≤ j → j < l → p j ≡ false

  abbrev NoneIn : ℕ → ℕ → Type 0
  NoneIn k n = (j : ℕ) → k ≤ j → j < k + n → p j ≡ false

  -- one level more, which doesn't have it
  later : (k n l : ℕ) → p k ≡ false → LowestIn (suc k) n l → LowestIn k (suc n) l
  later k n l h w =
      record { from = omega (arith, w.from); low = omega (arith, w.low); holds = w.holds; least = λ j a b. least j (ℕ_discrete j k) a b }
    where
      least : (j : ℕ) → Dec (j ≡ k) → k ≤ j → j < l → p j ≡ false
      least j (yes z) a b = ap p z ∙ h
      least j (no z) a b = w.least j (omega (arith, z)) b

  none-later : (k n : ℕ) → p k ≡ false → NoneIn (suc k) n → NoneIn k (suc n)
  none-later k n h w j a b = of (ℕ_discrete j k)
    where
      of : Dec (j ≡ k) → p j ≡ false
      of (yes z) = ap p z ∙ h
      of (no z) = w j (omega (arith, z)) (omega arith)

  -- Where none has the property, none is found;
  none_from : (k n : ℕ) → NoneIn k n → lowest_from p k n ≡ refused 42
  unfolding lowest_from
  none_from k zero w = refl
  none_from k (suc n) w = rw (w k (omega arith) (omega arith)) (none_from (suc k) n (λ j a b. w j (omega arith) (omega arith)))

  -- the lowest that has it is found;
  lowest-from : (k n l : ℕ) → LowestIn k n l → lowest_from p k n ≡ value l
  unfolding lowest_from
  lowest-from k zero l w = absurd (omega (arith, w.from, w.low))
  lowest-from k (suc n) l w = of (ℕ_discrete k l) (lowest-from (suc k) n l)
    where
      of : Dec (k ≡ l) → (LowestIn (suc k) n l → lowest_from p (suc k) n ≡ value l) → cond (p k) (value k) (lowest_from p (suc k) n) ≡ value l
      of (yes z) f = rw (z, w.holds)
      of (no z) f =
          let q = w.least k (omega arith) (omega (arith, w.from, z)) in
          rw q (f (record {
            from = omega (arith, w.from, z);
            low = omega (arith, w.low);
            holds = w.holds;
            least = λ j a b. w.least j (omega arith) b;
          }))

  -- and there is one, or none.
  pub data Outcome (k n : ℕ) : Type 0 where
    one : (l : ℕ) → LowestIn k n l → Outcome k n
    none : NoneIn k n → Outcome k n

  outcome : (k n : ℕ) → Outcome k n
  outcome k zero = none (λ j a b. absurd (omega arith))
  outcome k (suc n) = of (p k) refl (outcome (suc k) n)
    where
      of : (b : Bool) → p k ≡ b → Outcome (suc k) n → Outcome k (suc n)
      of true h w = one k (record { from = omega arith; low = omega arith; holds = h; least = λ j a b. absurd (omega arith) })
      of false h (one l w) = one l (later k n l h w)
      of false h (none w) = none (none-later k n h w)

  whole : (n l : ℕ) → IsLowest p n l → LowestIn 0 n l
  whole n l w = record { from = omega arith; low = omega (arith, w.low); holds = w.holds; least = λ j a b. w.least j b }

  -- The levels below n.
  pub is-lowest : (n l : ℕ) → IsLowest p n l → lowest_from p 0 n ≡ value l
  is-lowest n l w = lowest-from 0 n l (whole n l w)

  pub none-lowest : (n : ℕ) → NoneBelow p n → lowest_from p 0 n ≡ refused 42
  none-lowest n w = none_from 0 n (λ j a b. w j (omega arith))

  pub lowest-exact : (n l : ℕ) → lowest_from p 0 n ≡ value l → IsLowest p n l
  lowest-exact n l q = of (outcome 0 n)
    where
      of : Outcome 0 n → IsLowest p n l
      of (one k w) =
          let z : k ≡ l = ap value_or (sym (lowest-from 0 n k w) ∙ q) in
          record { low = omega (arith, w.low, z); holds = ap p (sym z) ∙ w.holds; least = λ j b. w.least j (omega arith) (omega (arith, z)) }
      of (none w) = absurd (true≢false (ap is_value (sym q ∙ none_from 0 n w)))

  pub none-exact : (n k : ℕ) → lowest_from p 0 n ≡ refused k → (k ≡ 42) × NoneBelow p n
  none-exact n k q = of (outcome 0 n)
    where
      of : Outcome 0 n → (k ≡ 42) × NoneBelow p n
      of (one l w) = absurd (true≢false (ap is_value (sym (lowest-from 0 n l w) ∙ q)))
      of (none w) = (ap value_or (sym q ∙ none_from 0 n w), λ j b. w j (omega arith) (omega arith))
