-- Which of document 01's numbers a 7-bit number is refused with; `byte-refused` says it of a byte, 30 and 37. 'The file's writer,
-- nodes': '30° ends early', '37 bad escape', '38 (added) binary number over 64 bits'.
use mathlib.Core.Path.{◌≡◌}
use mathlib.Core.List.{List}
use mathlib.Core.Logic.{◌⊎◌, inl, inr, ⊎_elim}
use Prim.Native.Nat.{ℕ}
use native.Mathlib.Omega.{arith}
use Rattle.codes.specs.Answer.{Step, fails}
use Rattle.read_binary.specs.Binary.{number_at}
use Rattle.read_binary.specs.Groups.{GroupAnswers, reads, over, ends}
use Rattle.read_binary.proofs.Decoded.{byte-refused}
use Rattle.read_binary.proofs.Groups.{number-answers}

-- A 7-bit number is refused with 30, 37 or 38.
pub seven-bit-refuses : (f : List ℕ) (at n : ℕ) → number_at f at ≡ fails n → (n ≡ 30) ⊎ (n ≡ 37) ⊎ (n ≡ 38)
seven-bit-refuses f at n e = of (number-answers f at) e
  where
    of : {s : Step ℕ} → GroupAnswers f at s → s ≡ fails n → (n ≡ 30) ⊎ (n ≡ 37) ⊎ (n ≡ 38)
    of (reads s) k = absurd (let z : ◌≡◌ {A = ℕ} 0 1 = cc in omega arith)
    of (over p) k = inr (inr (cc))
    of (ends {n = m} b) k =
        let z : m ≡ n = cc in
        ⊎_elim inl (λ q. inr (inl q)) (byte-refused f b.place (rw z at b.refused))
