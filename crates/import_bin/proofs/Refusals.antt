-- Which of document 01's numbers a node line in binary is refused with.
use mathlib.Core.Path.{◌≡◌}
use mathlib.Core.Bool.{Bool, ◌&&◌}
use mathlib.Core.List.{List}
use mathlib.Core.Logic.{inl, inr, ⊎_elim}
use Prim.Native.Nat.{ℕ, ◌-◌, ◌/◌, ◌%◌}
use native.Mathlib.Omega.{arith}
use lib.ListN.{length, get_or}
use lib.IntN.{ℤ}
use lib.Dec.{ltb, eqb}
use Rattle.codes.specs.Answer.{fails}
use Rattle.codes.specs.Codes.{code_of}
use Rattle.codes.specs.declared.Code.{Code}
use Rattle.codes.specs.declared.Code.TheVariants.{Terminal, AbsoluteID, RelativeID, Relative1}
use Rattle.codes.proofs.Numbers.{StepRefuses, step-refuses, refuses-step, cond_step, then-step}
use Rattle.read_binary.specs.Binary.{byte_at}
use Rattle.read_binary.proofs.Decoded.{byte-refused}
use Rattle.read_edges.specs.Edges.{signed}
use Rattle.node_lines.specs.Line.{deeper}
use Rattle.line_numbers.specs.Numbers.{child_at, variable_at}
use Rattle.line_numbers.proofs.Refusals.{variable-at-refuses, child-at-refuses}
use Rattle.import_bin.specs.Bin.{counts_from, position_by, placed_at, resolved, inner_at, by_code, bin_line_at}
use Rattle.import_bin.specs.BinaryNumbers.{BinaryNumber}

byte_step : (f : List ℕ) (at : ℕ) → StepRefuses BinaryNumber (byte_at f at)
byte_step f at = step-refuses BinaryNumber (byte_at f at) (λ k e. ⊎_elim inl (λ z. inr (omega arith)) (byte-refused f at e))

variable-step : (code : Code) (f : List ℕ) (at : ℕ) → StepRefuses BinaryNumber (variable_at code f at)
variable-step code f at =
    step-refuses BinaryNumber (variable_at code f at)
    (λ k e. ⊎_elim inl (⊎_elim (λ z. inr (omega arith)) (λ z. inr (omega arith))) (variable-at-refuses code f at k e))

child-step : (code : Code) (n : ℕ) (f : List ℕ) (at : ℕ) → StepRefuses BinaryNumber (child_at code n f at)
child-step code n f at =
    step-refuses BinaryNumber (child_at code n f at)
    (λ k e.
    ⊎_elim inl (⊎_elim (λ z. inr (omega arith)) (⊎_elim (λ z. inr (omega arith)) (λ z. inr (omega arith))))
    (child-at-refuses code n f at k e))

position-step : (code : Code) (from v : ℕ) → StepRefuses BinaryNumber (position_by code from v)
position-step Terminal from v = inr (omega arith)
position-step AbsoluteID from v = tt
position-step RelativeID from v = cond_step BinaryNumber (ltb from v) _ _ (inr (omega arith)) tt
position-step Relative1 from v = cond_step BinaryNumber (ltb from v) _ _ (inr (omega arith)) tt

module _ (count : ℕ) (levels seats : List ℕ) where
  placed-step : (t e : ℕ) (els : ℤ) (next p : ℕ) → StepRefuses BinaryNumber (placed_at levels seats t e els next p)
  placed-step t e els next p =
      cond_step BinaryNumber (ltb p (length levels)) _ _
      (cond_step BinaryNumber (deeper levels seats (get_or levels p 0) t && deeper levels seats (get_or levels p 0) e) _ _ tt (inr (omega arith)))
      (inr (omega arith))

  resolved_step : (code : Code) (v : ℕ) (complement : Bool) (t e next : ℕ)
      → StepRefuses BinaryNumber (resolved count levels seats code v complement t e next)
  resolved_step code v complement t e next =
      let from : ℕ = counts_from count (get_or seats (t - 1) 0) (get_or seats (e - 1) 0) in
      then-step BinaryNumber (position_by code from v) _ (position-step code from v) (λ p _. placed-step t e (signed complement e) next p)

  module _ (n : ℕ) (f : List ℕ) (b : ℕ) where
    inner-step : (code : Code) (at : ℕ) → StepRefuses BinaryNumber (inner_at count levels seats n f b code at)
    inner-step code at =
        then-step BinaryNumber (variable_at code f at) _ (variable-step code f at) (λ v at₁.
        then-step BinaryNumber (child_at (code_of (b / 8)) n f at₁) _ (child-step (code_of (b / 8)) n f at₁) (λ t at₂.
        then-step BinaryNumber (child_at (code_of b) n f at₂) _ (child-step (code_of b) n f at₂) (λ e next.
        resolved_step code v (eqb ((b / 4) % 2) 1) t e next)))

    code_step : (code : Code) (at : ℕ) → StepRefuses BinaryNumber (by_code count levels seats n f b code at)
    code_step Terminal at = tt
    code_step AbsoluteID at = inner-step AbsoluteID at
    code_step RelativeID at = inner-step RelativeID at
    code_step Relative1 at = inner-step Relative1 at

  line_step : (n : ℕ) (f : List ℕ) (at : ℕ) → StepRefuses BinaryNumber (bin_line_at count levels seats n f at)
  unfolding bin_line_at
  line_step n f at = then-step BinaryNumber (byte_at f at) _ (byte_step f at) (λ b next. code_step n f b (code_of (b / 32)) next)

  -- A node line in binary is refused with 30 or 34 to 38.
  pub bin-line-refuses : (n : ℕ) (f : List ℕ) (at k : ℕ) → bin_line_at count levels seats n f at ≡ fails k → BinaryNumber k
  bin-line-refuses n f at k e = refuses-step BinaryNumber (line_step n f at) e
