-- Which of document 01's numbers a number is refused with. 'The file's writer, line by line': '14 a single number has a foreign
-- character or no digit. 15 a number is too large'.
use mathlib.Core.Path.{◌≡◌, refl}
use mathlib.Core.List.{List, [], ◌∷◌}
use mathlib.Core.Logic.{◌⊎◌, inl, inr, ⊎_elim}
use Prim.Native.Nat.{ℕ}
use native.Mathlib.Omega.{arith}
use Rattle.codes.proofs.Machine.{Ends, all, at, run_ends}
use Rattle.codes.specs.Answer.{Read, value, refused, fails}
use Rattle.read_lines.specs.Words.{Word, words}
use Rattle.read_numbers.specs.declared.Role.{Role}
use Rattle.read_numbers.specs.declared.Role.TheVariants.{Single}
use Rattle.read_numbers.specs.Number.{foreign, digit, number, single, ends_at, first_of, first}
use Rattle.read_numbers.proofs.Number.{Stopped, stopped}
use Rattle.read_numbers.proofs.Number

-- what digits can be refused with: the number of some foreign character, or 15
abbrev pub Refuses : Role → ℕ → Type 0
Refuses role n = ((x : ℕ) × (n ≡ foreign role x)) ⊎ (n ≡ 15)

module _ (role : Role) (lim : ℕ) where
  -- A byte that stops is too large a digit or a foreign character.
  stopped-refuses : {v x : ℕ} {r : Read ℕ} (n : ℕ) → Stopped role lim v x r → r ≡ refused n → Refuses role n
  stopped-refuses n (Number.over d h) e = inr (cc)
  stopped-refuses {x = x} n (Number.strange d) e = inl (x, cc)

  ends-refuses : {s : List ℕ} {r : Read ℕ} (n : ℕ) → Ends (digit role lim) value 0 s r → r ≡ refused n → Refuses role n
  ends-refuses n (all l) e = absurd (let z : ◌≡◌ {A = ℕ} 0 1 = cc in omega arith)
  ends-refuses n (at {t = t} p x m k l f) e = stopped-refuses n (stopped role lim t x f) e

  -- Digits are refused with one of these, whatever the limit is.
  pub number-refuses : (s : List ℕ) (n : ℕ) → number role lim s ≡ refused n → Refuses role n
  unfolding number
  number-refuses s n e = ends-refuses n (run_ends (digit role lim) value 0 s) e

module _ (lim : ℕ) where
  -- A single number is refused with 14 or 15.
  pub single-refuses : (s : List ℕ) (n : ℕ) → single lim s ≡ refused n → (n ≡ 14) ⊎ (n ≡ 15)
  unfolding single
  single-refuses [] n e = inl (cc)
  single-refuses (x ∷ s) n e = ⊎_elim (λ p. inl p.1) inr (number-refuses Single lim (x ∷ s) n e)

  ends-at-refuses : (next : ℕ) (s : List ℕ) (r : Read ℕ) (n : ℕ) → single lim s ≡ r → ends_at next r ≡ fails n → (n ≡ 14) ⊎ (n ≡ 15)
  ends-at-refuses next s (value v) n q e = absurd (let z : ◌≡◌ {A = ℕ} 0 1 = cc in omega arith)
  ends-at-refuses next s (refused k) n q e = let z : k ≡ n = cc in single-refuses s n (rw z at q)

  first-of-refuses : (ws : List Word) (n : ℕ) → first_of lim ws ≡ fails n → (n ≡ 14) ⊎ (n ≡ 15)
  first-of-refuses [] n e = inl (cc)
  first-of-refuses (w ∷ ws) n e = ends-at-refuses _ w.bytes (single lim w.bytes) n refl e

  -- So is the number of a node line.
  pub first-refuses : (s : List ℕ) (n : ℕ) → first lim s ≡ fails n → (n ≡ 14) ⊎ (n ≡ 15)
  unfolding first
  first-refuses s n e = first-of-refuses (words 0 s) n e
