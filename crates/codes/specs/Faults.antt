-- Checks in their order: the first refusal counts. 0 stands for no refusal.
use Rattle.std.specs.Prelude.{ℕ, zero, suc, List, [], ◌∷◌, Bool, cond}

-- the first refusal of checks in their order; 0 of none
unfoldable pub first_fault : List ℕ → ℕ
first_fault [] = 0
first_fault (zero ∷ l) = first_fault l
first_fault (suc n ∷ l) = suc n

-- a refusal where something holds, and where it doesn't
abbrev pub when : Bool → ℕ → ℕ
when b n = cond b n 0

abbrev pub unless : Bool → ℕ → ℕ
unless b n = cond b 0 n
