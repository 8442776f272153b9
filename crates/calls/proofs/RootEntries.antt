-- Entries of a list of roots: each stands at its place in a lent list.
use mathlib.Core.Path.{◌≡◌, refl, sym, ap, ◌∙◌}
use mathlib.Core.List.{List, [], ◌∷◌}
use Prim.Native.Nat.{ℕ, zero, suc, ◌≤◌, ◌<◌}
use native.Mathlib.Omega.{arith}
use lib.ListN.{length, get_or, replicate, length-replicate}
use lib.Seq.{get_or-take}
use lib.IntN.{ℤ, pos}
use Rattle.codes.specs.Lent.{laid}
use Rattle.header_values.proofs.Padded.{take-laid}

-- an entry of a list of zeros
zero-entry : (n i : ℕ) → get_or (replicate n (pos 0)) i (pos 0) ≡ pos 0
zero-entry zero i = refl
zero-entry (suc n) zero = refl
zero-entry (suc n) (suc i) = zero-entry n i

-- an entry of a lent list of zeros, over which entries were laid
pub laid-entry : (es : List ℤ) (n i : ℕ) → length es ≤ n → i < length es → get_or (laid es (replicate n (pos 0))) i (pos 0) ≡ get_or es i (pos 0)
laid-entry es n i h k =
    sym (get_or-take (length es) (laid es (replicate n (pos 0))) i (pos 0) k)
    ∙ ap (λ l. get_or l i (pos 0)) (take-laid es (replicate n (pos 0)) (omega (arith, length-replicate n (pos 0))))

-- and what follows them is 0
pub laid-rest : (es : List ℤ) (n i : ℕ) → length es ≤ i → get_or (laid es (replicate n (pos 0))) i (pos 0) ≡ pos 0
unfolding laid
laid-rest [] n i k = zero-entry n i
laid-rest (e ∷ es) zero i k = refl
laid-rest (e ∷ es) (suc n) zero k = absurd (omega arith)
laid-rest (e ∷ es) (suc n) (suc i) k = laid-rest es n i (omega arith)
