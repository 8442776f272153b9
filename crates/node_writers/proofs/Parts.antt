-- Lists that are written one after another, each from where the one before it ended.
use mathlib.Core.Path.{◌≡◌, refl, ◌∙◌}
use mathlib.Core.List.{List, [], ◌∷◌, ◌++◌}
use Prim.Native.Nat.{ℕ, ◌+◌}
use native.Mathlib.Omega.{arith}
use lib.ListN.{length, length-append}
use Rattle.writers.specs.Written.{Wrote}
use Rattle.writers.proofs.Sets.{wrote_then}

-- lists after one another
abbrev pub joined : List (List ℕ) → List ℕ
joined [] = []
joined (w ∷ ws) = w ++ joined ws

-- their lengths together
abbrev pub total : List (List ℕ) → ℕ
total [] = 0
total (w ∷ ws) = length w + total ws

pub length-joined : (ws : List (List ℕ)) → length (joined ws) ≡ total ws
length-joined [] = refl
length-joined (w ∷ ws) = length-append w (joined ws) ∙ rw (length-joined ws)

-- each is written from where the one before it ended
pub data Writes : List ℕ → ℕ → List (List ℕ) → ℕ → List ℕ → Type 0 where
  none : {l : List ℕ} {at : ℕ} → Writes l at [] at l
  then : {l m out w : List ℕ} {ws : List (List ℕ)} {at next end : ℕ} → Wrote l at w next m → Writes m next ws end out → Writes l at (w ∷ ws) end out

-- so all of them are
pub wrote-all : (ws : List (List ℕ)) {l out : List ℕ} {at end : ℕ} → Writes l at ws end out → Wrote l at (joined ws) end out
wrote-all [] none = record { next = omega arith; bytes = refl }
wrote-all (w ∷ ws) {l} {out} {at} (then p q) = wrote_then l at w (joined ws) p (wrote-all ws q)
