-- Results of joins that are remembered. A line has four entries: the number of an operation, two edges, and the edge that says the operation on
-- them, 0 in an empty line. What a line means, it means in today's store, whatever was made since.
use Rattle.std.specs.Prelude.{ℕ, ◌+◌, ◌*◌, ◌<◌, ◌≢◌, cond, Option, IfSome, List, length, get_or, ℤ, pos}
use Rattle.edges.specs.Edge.{IsEdge, eq_z}
use Rattle.store.specs.Store.{Store}
use Rattle.store.specs.Growth.{EdgeOf}
use Rattle.joined.specs.declared.Op.{Op}
use Rattle.joined.specs.declared.Op.TheVariants as op
use Rattle.joined.specs.Join.{SaysJoin}

-- the operation of a line's number
abbrev pub op_by : ℤ → Op
op_by k = cond (eq_z k (pos 1)) op.And op.Xor

-- a line that is right: its edges are the store's, and the last says the operation on the others
pub record CacheLine (σ : Store) (k a b x : ℤ) : Type 0 where
  pub left : EdgeOf σ a
  pub right : EdgeOf σ b
  pub result : SaysJoin (op_by k) σ a b x

-- every line is empty or right
abbrev pub Cached : Store → List ℤ → Type 0
Cached σ c = (i : ℕ) → 4 * i + 3 < length c → get_or c (4 * i + 3) (pos 0) ≢ pos 0
    → CacheLine σ (get_or c (4 * i) (pos 0)) (get_or c (4 * i + 1) (pos 0)) (get_or c (4 * i + 2) (pos 0)) (get_or c (4 * i + 3) (pos 0))

-- each line's result is an edge of the width, so that it has an opposite
abbrev pub Turnable : List ℤ → Type 0
Turnable c = (i : ℕ) → 4 * i + 3 < length c → IsEdge (get_or c (4 * i + 3) (pos 0))

-- What a search gives, where it gives a result: in whatever store the lines are right, it says the operation on the two edges.
abbrev pub FindsJoin : List ℤ → Op → ℤ → ℤ → Option ℤ → Type 0
FindsJoin c o a b r = (σ : Store) → Cached σ c → EdgeOf σ a → EdgeOf σ b → IfSome r (SaysJoin o σ a b)

-- What remembering a result leaves: in whatever store the lines were right and the result is, they are right.
abbrev pub Keeps : List ℤ → List ℤ → Op → ℤ → ℤ → ℤ → Type 0
Keeps c d o a b x = (σ : Store) → Cached σ c → EdgeOf σ a → EdgeOf σ b → SaysJoin o σ a b x → Cached σ d
