-- What a file's own lines say. Document 01, 'Node lines': 'A terminal line says yes at every setting. Another line says what its then child
-- says where the setting has yes at the line's level, else what its else child says. That level is the level list's entry at the line's
-- support position .. A root or child says what the line of its magnitude says, turned over under a minus. .. Children have lower numbers,
-- so this ends.' A line that isn't there says nothing, and neither does a line whose level isn't on the list: no default stands for it.
use Rattle.std.specs.Prelude.{ℕ, zero, suc, List, Bool, true, cond, ℤ, nat_abs}
use Rattle.std.proofs.Math.Option.{Option, none, some}
use Rattle.std.proofs.Math.ListN.{get_elem?}
use Rattle.edges.specs.Edge.{turn}
use Rattle.node_lines.specs.Line.{Line, terminal, inner}

-- the line of a number; lines count from 1
abbrev pub line_numbered : List Line → ℕ → Option Line
line_numbered lines zero = none
line_numbered lines (suc i) = get_elem? lines i

-- 'turned over under a minus'
abbrev pub turn_said : ℤ → Option Bool → Option Bool
turn_said c none = none
turn_said c (some b) = some (turn c b)

-- what then or else says, by the setting at a line's level
abbrev pub side_says : (ℕ → Bool) → Option ℕ → Option Bool → Option Bool → Option Bool
side_says setting none t e = none
side_says setting (some l) t e = cond (setting l) t e

-- what a line says, where its children say what k gives
abbrev pub line_says : List ℕ → (ℕ → Bool) → (ℤ → Option Bool) → Option Line → Option Bool
line_says levels setting k none = none
line_says levels setting k (some terminal) = some true
line_says levels setting k (some (inner p t e)) = side_says setting (get_elem? levels p) (k t) (k e)

-- line n, with as many steps down as the first number says
unfoldable pub says_by : ℕ → List ℕ → List Line → (ℕ → Bool) → ℕ → Option Bool
says_by zero levels lines setting n = none
says_by (suc d) levels lines setting n =
    line_says levels setting (λ c. turn_said c (says_by d levels lines setting (nat_abs c))) (line_numbered lines n)

-- a root or child: its line goes down at most as many steps as its number
unfoldable pub says : List ℕ → List Line → (ℕ → Bool) → ℤ → Option Bool
says levels lines setting r = turn_said r (says_by (nat_abs r) levels lines setting (nat_abs r))
