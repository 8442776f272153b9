-- Laws of a line of a variable and two children: the numbers after its code byte.
use mathlib.Core.Path.{◌≡◌, sym, ◌∙◌}
use mathlib.Core.List.{List}
use Prim.Native.Nat.{ℕ, ◌/◌, ◌%◌}
use lib.Dec.{eqb}
use Rattle.codes.specs.Answer.{Step, got, fails, then}
use Rattle.codes.specs.Codes.{code_of}
use Rattle.codes.specs.declared.Code.{Code}
use Rattle.node_lines.specs.Line.{Line}
use Rattle.line_numbers.specs.Numbers.{id_at, below, child_at, variable_at}
use Rattle.import_bin.specs.Bin.{resolved, inner_at}
use Rattle.line_numbers.proofs.Children.{child-after}
use Rattle.line_numbers.proofs.Steps.{then-then, refusal-on, refusal-kept}

-- From what the code's steps gave: the first refusal decides. Of each child `i` is the number read, and `s` what its check made of it.
module _ (count : ℕ) (levels seats : List ℕ) (n : ℕ) (f : List ℕ) (b : ℕ) (code : Code) (at : ℕ)
    {sv : Step ℕ} (ev : sv ≡ variable_at code f at)
    {ct : Code} (kt : ct ≡ code_of (b / 8)) {it : Step ℕ} (et : it ≡ then sv (λ _ at₁. id_at ct n f at₁))
    {st : Step ℕ} (dt : st ≡ then it (below n))
    {ce : Code} (ke : ce ≡ code_of b) {ie : Step ℕ} (ee : ie ≡ then st (λ _ at₂. id_at ce n f at₂))
    {se : Step ℕ} (de : se ≡ then ie (below n)) where
  -- then follows the variable
  then-child : st ≡ then sv (λ _ at₁. child_at (code_of (b / 8)) n f at₁)
  then-child = child-after sv (code_of (b / 8)) n f kt et dt

  -- else follows then, which is checked
  else-child : se ≡ then st (λ _ at₂. child_at (code_of b) n f at₂)
  else-child = child-after st (code_of b) n f ke ee de

  -- the last step is refused, where one of the three is
  pub inner-refused : {k : ℕ} → se ≡ fails k → fails k ≡ inner_at count levels seats n f b code at
  inner-refused e =
      rw (← ev)
      (refusal-kept sv _ _ (λ _ at₁. refusal-kept (child_at (code_of (b / 8)) n f at₁) _ _ (λ _ at₂. refusal-on _))
      (sym e ∙ (rw then-child at else-child) ∙ then-then sv _ _))

  -- all are read: the variable decides
  pub inner-resolved : {x at₁ y at₂ z next : ℕ} {r : Step Line} → sv ≡ got x at₁ → st ≡ got y at₂ → se ≡ got z next
      → r ≡ resolved count levels seats code x (eqb ((b / 4) % 2) 1) y z next
      → r ≡ inner_at count levels seats n f b code at
  inner-resolved v t e k = let p = rw (v, t) at then-child in let q = rw (t, e) at else-child in rw (← ev, v, ← p, ← q) k
