-- Lent lists: entries laid over their front, and zeros.
use mathlib.Core.Path.{◌≡◌, refl, sym, ap, ◌∙◌}
use mathlib.Core.List.{List, [], ◌∷◌}
use Prim.Native.Nat.{ℕ, ◌≤◌}
use native.Mathlib.Omega.{arith}
use lib.ListN.{length, take, replicate, length-replicate}
use Rattle.codes.specs.Lent.{laid}
use Rattle.codes.proofs.Lent.{length-laid, laid_none}
use Rattle.header_values.specs.Values.{pad}

-- entries that a list has room for are its front
pub take-laid : {A : Type 0} (es old : List A) → length es ≤ length old → take (length es) (laid es old) ≡ es
unfolding laid
take-laid [] old h = refl
take-laid (e ∷ es) [] h = absurd (omega arith)
take-laid (e ∷ es) (o ∷ old) h = ap (λ l. e ∷ l) (take-laid es old (omega arith))

-- with no entries there are zeros only
pub pad-none : (n : ℕ) → pad n [] ≡ replicate n 0
pad-none n = sym (laid_none (replicate n 0))

-- such a list keeps its length
pub length-pad : (n : ℕ) (es : List ℕ) → length (pad n es) ≡ n
length-pad n es = length-laid es (replicate n 0) ∙ length-replicate n 0

-- a list of zeros that entries were laid over is one of zeros when it is cleared again
pub pad-again : (n : ℕ) (es : List ℕ) {old dst out : List ℕ} → old ≡ replicate n 0 → dst ≡ laid es old
    → out ≡ replicate (length dst) 0 → out ≡ pad n []
pad-again n es o d c =
    let long = ap length d ∙ ap (λ l. length (laid es l)) o ∙ length-pad n es in
    c ∙ ap (λ m. replicate m 0) long ∙ sym (pad-none n)

-- a list that was cleared
module _ (n : ℕ) {old : List ℕ} (o : old ≡ replicate n 0) where
  -- keeps its length
  cleared-long : length old ≡ n
  cleared-long = ap length o ∙ length-replicate n 0

  -- and is zeros, as many as it has entries,
  pub cleared-zeros : old ≡ replicate (length old) 0
  cleared-zeros = o ∙ ap (λ m. replicate m 0) (sym cleared-long)

  -- so that entries are laid over as many zeros as it had before
  pub cleared-pad : (es : List ℕ) {dst : List ℕ} → dst ≡ pad (length old) es → dst ≡ pad n es
  cleared-pad es d = d ∙ ap (λ m. pad m es) cleared-long
