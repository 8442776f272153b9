-- Which of document 01's numbers a node line of text is refused with.
use mathlib.Core.Path.{◌≡◌, refl}
use mathlib.Core.Bool.{Bool, true, false, cond, ◌||◌}
use mathlib.Core.List.{List}
use mathlib.Core.Logic.{◌⊎◌, inl, inr, ⊎_elim, ◌↔◌}
use Prim.Native.Nat.{ℕ, zero, suc, ◌^◌, ◌≤◌}
use native.Mathlib.Omega.{arith}
use lib.ListN.{length, drop, get_or}
use lib.IntN.{ℤ, nat_abs}
use lib.Dec.{ltb, leb, eqb}
use borrow.Author.Tests.{le-ltb, ltb-false}
use Rattle.codes.specs.Texts.{bytes}
use Rattle.codes.specs.Answer.{Read, value, refused, Step, got, fails}
use Rattle.codes.proofs.Numbers.{ReadRefuses, StepRefuses, read-refuses, step-refuses, refuses-step, cond-read}
use Rattle.read_lines.specs.Line.{line_of}
use Rattle.read_numbers.specs.Number.{single}
use Rattle.read_numbers.proofs.Refusals.{single-refuses}
use Rattle.read_edges.specs.Edges.{Pair, children}
use Rattle.read_edges.proofs.Refusals.{children-refuses}
use Rattle.read_text.specs.Alike.{alike}
use Rattle.header_lines.specs.Sweep.{part}
use Rattle.node_lines.specs.Line.{Line, inner, deeper, child_fault}
use Rattle.line_words.specs.Words.{variable_word}
use Rattle.line_words.proofs.Refusals.{variable-word-refuses}
use Rattle.import_ascii.specs.Text.{faultless, variable, described, by_word, text_line, line_ends_at, text_line_at}
use Rattle.import_ascii.specs.TextNumbers.{TextNumber}

-- the numbers of a line that is there
abbrev Judges : ℕ → Type 0
Judges k = ((14 ≤ k) × (k ≤ 17)) ⊎ ((31 ≤ k) × (k ≤ 36))

module _ (levels seats : List ℕ) (n : ℕ) where
  child-judges : (l : ℕ) (c : ℤ) → (child_fault levels seats n l c ≡ 0) ⊎ Judges (child_fault levels seats n l c)
  unfolding child_fault
  child-judges l c = of (leb n (nat_abs c)) (deeper levels seats l (nat_abs c))
    where
      of : (a b : Bool) → (◌≡◌ {A = ℕ} (cond a 35 (cond b 0 36)) 0) ⊎ Judges (cond a 35 (cond b 0 36))
      of true b = inr (inr (omega arith))
      of false true = inl refl
      of false false = inr (inr (omega arith))

  faultless-judges : (a b : ℕ) (l : Line) → (a ≡ 0) ⊎ Judges a → (b ≡ 0) ⊎ Judges b → ReadRefuses Judges (faultless a b l)
  faultless-judges zero zero l h k = tt
  faultless-judges zero (suc b) l h k = ⊎_elim (λ z. absurd (omega arith)) (λ z. z) k
  faultless-judges (suc a) b l h k = ⊎_elim (λ z. absurd (omega arith)) (λ z. z) h

  variable-judges : (t e : ℤ) (r : Read ℕ) → ReadRefuses Judges r → ReadRefuses Judges (variable levels seats n t e r)
  variable-judges t e (refused k) h = h
  variable-judges t e (value p) h =
      cond-read Judges (ltb p (length levels)) _ _
      (faultless-judges (child_fault levels seats n (get_or levels p 0) t) (child_fault levels seats n (get_or levels p 0) e) (inner p t e)
      (child-judges (get_or levels p 0) t) (child-judges (get_or levels p 0) e))
      (inr (omega arith))

  word-judges : (word : List ℕ) → ReadRefuses Judges (single (2 ^ 32) word)
  word-judges word =
      read-refuses Judges (single (2 ^ 32) word)
      (λ k e. ⊎_elim (λ z. inl (omega arith)) (λ z. inl (omega arith)) (single-refuses (2 ^ 32) word k e))

  children-judges : (s : List ℕ) → ReadRefuses Judges (children s)
  children-judges s =
      read-refuses Judges (children s)
      (λ k e. ⊎_elim (λ z. inl (omega arith)) (⊎_elim (λ z. inl (omega arith)) (λ z. inl (omega arith))) (children-refuses s k e))

  described-judges : (word : List ℕ) (r : Read Pair) → ReadRefuses Judges r → ReadRefuses Judges (described levels seats n word r)
  described-judges word (refused k) h = h
  described-judges word (value c) h =
      cond-read Judges (eqb c.count 2) _ _
      (cond-read Judges (eqb (nat_abs c.first) 0 || eqb (nat_abs c.second) 0) _ _
      (cond-read Judges (alike word (bytes "T")) _ _ tt (inr (omega arith)))
      (variable-judges c.first c.second (single (2 ^ 32) word) (word-judges word)))
      (inr (omega arith))

  by-word-judges : (s : List ℕ) (w : Step ℕ) → StepRefuses Judges w → ReadRefuses Judges (by_word levels seats n s w)
  by-word-judges s (fails k) h = h
  by-word-judges s (got start end) h = described-judges (part s start end) (children (drop end s)) (children-judges (drop end s))

  line-judges : (extra : Bool) (s : List ℕ) → ReadRefuses Judges (text_line extra levels seats n s)
  unfolding text_line
  line-judges extra s =
      by-word-judges s (variable_word extra n s)
      (step-refuses Judges (variable_word extra n s) (λ k e. of k (variable-word-refuses extra n s k e)))
    where
      of : (k : ℕ) → (k ≡ 14) ⊎ (k ≡ 15) ⊎ (k ≡ 31) ⊎ (k ≡ 32) → Judges k
      of k w =
          ⊎_elim (λ z. inl (omega arith)) (⊎_elim (λ z. inl (omega arith)) (⊎_elim (λ z. inr (omega arith)) (λ z. inr (omega arith)))) w

  ended-judges : (next : ℕ) (r : Read Line) → ReadRefuses Judges r → StepRefuses Judges (line_ends_at next r)
  ended-judges next (value l) h = tt
  ended-judges next (refused k) h = h

  -- what holds of those numbers holds of each refusal
  judges-hold : (P : ℕ → Type 0) → ((k : ℕ) → Judges k → P k) → (s : Step Line) → StepRefuses Judges s → StepRefuses P s
  judges-hold P h (got l next) j = tt
  judges-hold P h (fails k) j = h k j

  module _ (extra : Bool) (f : List ℕ) (at : ℕ) where
    -- the line at the position
    abbrev standing : Step Line
    standing = line_ends_at (line_of f at).next (text_line extra levels seats n (part f at (line_of f at).end))

    standing-judges : StepRefuses Judges standing
    standing-judges =
        let s : List ℕ = part f at (line_of f at).end in ended-judges (line_of f at).next (text_line extra levels seats n s) (line-judges extra s)

    -- the answer, by whether there is a line
    at-judges : (b : Bool) (P : ℕ → Type 0) → ((k : ℕ) → Judges k → P k) → (b ≡ false → P 30) → StepRefuses P (cond b standing (fails 30))
    at-judges true P h z = judges-hold P h standing standing-judges
    at-judges false P h z = z refl

    -- A node line of text is refused with 14 to 17 or 30 to 36.
    pub text-line-refuses : (k : ℕ) → text_line_at extra levels seats n f at ≡ fails k → TextNumber k
    unfolding text_line_at
    text-line-refuses k e =
        refuses-step TextNumber
        (at-judges (ltb at (length f)) TextNumber (λ j h. ⊎_elim inl (λ z. inr (omega (arith, z.0, z.1))) h) (λ z. inr (omega arith))) e

    -- 30 comes exactly where there is no line.
    pub text-ends-early : (text_line_at extra levels seats n f at ≡ fails 30) ↔ (length f ≤ at)
    unfolding text_line_at
    text-ends-early = (
      λ e.
          refuses-step (λ k. k ≡ 30 → length f ≤ at)
          (at-judges (ltb at (length f)) (λ k. k ≡ 30 → length f ≤ at)
          (λ k h q. absurd (⊎_elim (λ z. omega (arith, z.0, z.1)) (λ z. omega (arith, z.0, z.1)) h)) (λ b q. ltb-false at (length f) b)) e refl,
      λ h. rw (le-ltb at (length f) h),
    )
