-- What a writer asks and promises: bytes are written into a lent part from a position on, and the answer is the position after them.
use Rattle.std.specs.Prelude.{ℕ, ◌+◌, ◌≤◌, ◌≡◌, List, length}
use Rattle.std.proofs.lemmas.List.Edits.{sets}
use Rattle.codes.specs.Lent.{Part, old, new}

-- there is room for the bytes w
abbrev pub FitsOut : List ℕ → ℕ → List ℕ → Type 0
FitsOut out at w = at + length w ≤ length out

-- the bytes w stand in `after` from `at` on, and all else is as in `before`; `end` is the position after them
pub record Wrote (before : List ℕ) (at : ℕ) (w : List ℕ) (end : ℕ) (after : List ℕ) : Type 0 where
  pub next : end ≡ at + length w
  pub bytes : after ≡ sets before at w

-- so of a lent part, as the call starts and as it ends
abbrev pub Written : Part (List ℕ) → ℕ → List ℕ → ℕ → Type 0
Written out at w r = Wrote (old out) at w r (new out)
