-- The roots. Document 01, 'The file's writer, header as a whole'.
use Rattle.std.specs.Prelude.{ℕ, ◌≤◌, ◌<◌, List, [], ◌∷◌, cond, ℤ, pos, nat_abs, length, get_or, ltb, eqb}
use Rattle.codes.specs.Limits.{node_limit}

-- the roots that 'per root 25 zero, 26 magnitude above `.nnodes`' leaves: each names one of the nodes
abbrev pub RootsAllowed : ℕ → List ℤ → Type 0
RootsAllowed nnodes rs = (i : ℕ) → i < length rs → (1 ≤ nat_abs (get_or rs i (pos 0))) × (nat_abs (get_or rs i (pos 0)) ≤ nnodes)

-- 'per root 25 zero, 26 magnitude above `.nnodes`': the first root with a fault decides, 0 where none has one
unfoldable pub roots_fault : ℕ → List ℤ → ℕ
roots_fault nnodes [] = 0
roots_fault nnodes (r ∷ rs) =
    cond (eqb (nat_abs r) 0) 25
    (cond (ltb nnodes (nat_abs r)) 26
    (roots_fault nnodes rs))

-- a root as an edge: one beyond the nodes that a file may have is none
unfoldable pub edge_of : ℤ → ℤ
edge_of r = cond (ltb node_limit (nat_abs r)) (pos 0) r
