-- The line that tells a refusal: the parts that it is written in, and that it is short.
use mathlib.Core.Path.{◌≡◌, ◌∙◌}
use mathlib.Core.Bool.{Bool, true, false}
use mathlib.Core.List.{List, [], ◌∷◌, ◌++◌, flatten, append-nil}
use Prim.Native.Nat.{ℕ, zero, suc, ◌+◌, ◌/◌, ◌%◌, ◌≤◌}
use native.Mathlib.Omega.{arith}
use lib.Dec.{ltb}
use lib.ListN.{length, replicate, length-append, length-replicate}
use Rattle.codes.specs.Lent.{laid}
use Rattle.codes.proofs.Lent.{length-laid}
use Rattle.writers.specs.Decimal.{digits, decimal}
use Rattle.writers.specs.Written.{Wrote}
use Rattle.writers.proofs.Sets.{sets-laid}
use Rattle.heading.proofs.Writing.{Writing, writing_start}
use Rattle.recode_text.specs.Text.{refused_word, line_word, refusal_text}

-- each part is written by one call
abbrev pub refusal_parts : ℕ → ℕ → List (List ℕ)
refusal_parts n line = refused_word ∷ decimal n ∷ line_word ∷ decimal line ∷ (0x0a ∷ []) ∷ []

refusal-parts : (n line : ℕ) → refusal_text n line ≡ flatten (refusal_parts n line)
unfolding refusal_text flatten
refusal-parts n line = simp append-nil

-- A number as it is written has at most twenty digits,
digits-few : (k n : ℕ) → length (digits k n) ≤ k + 1
unfolding digits
digits-few zero n = omega arith
digits-few (suc k) n = go (ltb n 10) (digits-few k (n / 10))
  where
    go : (b : Bool) → length (digits k (n / 10)) ≤ k + 1
        → length {A = ℕ} (elim b [ true ↦ (48 + n) ∷ [] | false ↦ digits k (n / 10) ++ ((48 + n % 10) ∷ []) ]) ≤ suc k + 1
    go true h = omega arith
    go false h = omega (arith, length-append (digits k (n / 10)) ((48 + n % 10) ∷ []))

decimal-few : (n : ℕ) → length (decimal n) ≤ 20
unfolding decimal
decimal-few n = digits-few 19 n

-- so 64 bytes have room for every line.
refusal-short : (n line : ℕ) → length (refusal_text n line) ≤ 64
unfolding refusal_text
refusal-short n line =
    omega (
      arith,
      length-append (decimal n) (line_word ++ (decimal line ++ (0x0a ∷ []))),
      length-append (decimal line) (0x0a ∷ []),
      decimal-few n,
      decimal-few line,
    )

module _ (n line : ℕ) where
  -- at first all parts are left
  pub refusal-start : {old : List ℕ} → old ≡ replicate 64 0 → Writing old 0 (refusal_text n line) old 0 (refusal_parts n line)
  refusal-start {old} e =
      writing_start old 0 (refusal-parts n line) (rw e (omega (arith, length-replicate {A = ℕ} 64 0, refusal-short n line)))

  -- once all is written it lies over the front of zeros
  pub refusal-end : {old : List ℕ} {end : ℕ} {out : List ℕ} → old ≡ replicate 64 0 → Wrote old 0 (refusal_text n line) end out
      → (end ≡ length (refusal_text n line)) × (out ≡ laid (refusal_text n line) (replicate 64 0))
  refusal-end {old} e w = (omega (arith, w.next), w.bytes ∙ sets-laid old (refusal_text n line) ∙ rw e)

  -- and within them
  pub refusal-within : {end : ℕ} {out : List ℕ} → (end ≡ length (refusal_text n line)) × (out ≡ laid (refusal_text n line) (replicate 64 0))
      → end ≤ length out
  refusal-within w =
      rw (w.0, w.1, length-laid (refusal_text n line) (replicate 64 0)) (omega (arith, length-replicate {A = ℕ} 64 0, refusal-short n line))
