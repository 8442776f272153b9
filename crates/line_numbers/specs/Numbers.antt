-- The numbers of a node line in binary. Document 01, 'Node lines': 'Codes: 0 terminal (node 1), 1 absolute, 2 relative (that many before),
-- 3 one before. .. Numbers follow in that order: variable, then, else'.
use Rattle.std.specs.Prelude.{ℕ, ◌-◌, List, cond, ◌||◌, leb, eqb}
use Rattle.codes.specs.Answer.{Step, got, fails, then}
use Rattle.codes.specs.declared.Code.{Code}
use Rattle.codes.specs.declared.Code.TheVariants.{Terminal, AbsoluteID, RelativeID, Relative1}
use Rattle.read_binary.specs.Binary.{number_at}

-- The number of a child of line n. 'Codes: 0 terminal (node 1), 1 absolute, 2 relative (that many before), 3 one before.' A distance above n
-- leaves 0, the number of no line.
unfoldable pub id_at : Code → ℕ → List ℕ → ℕ → Step ℕ
id_at Terminal n f at = got 1 at
id_at AbsoluteID n f at = number_at f at
id_at RelativeID n f at = then (number_at f at) (λ d next. got (n - d) next)
id_at Relative1 n f at = got (n - 1) at

-- '35 child 0 (binary) or not below its node', and so 'A distance above the node's own number gives 35'
abbrev pub below : ℕ → ℕ → ℕ → Step ℕ
below n id next = cond (eqb id 0 || leb n id) (fails 35) (got id next)

-- A child of line n: its number is read, then checked.
unfoldable pub child_at : Code → ℕ → List ℕ → ℕ → Step ℕ
child_at code n f at = then (id_at code n f at) (below n)

-- the number of a variable: 'one before' has none, and counts 1
unfoldable pub variable_at : Code → List ℕ → ℕ → Step ℕ
variable_at Terminal f at = got 0 at
variable_at AbsoluteID f at = number_at f at
variable_at RelativeID f at = number_at f at
variable_at Relative1 f at = got 1 at
