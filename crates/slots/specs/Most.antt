-- How many nodes a store can have.
use Rattle.std.specs.Prelude.{ℕ, cond, ltb}
use Rattle.codes.specs.Limits.{node_limit}

-- 'every slot lent, or [the limit]': the smaller of the two
abbrev pub most_nodes : ℕ → ℕ
most_nodes len = cond (ltb len node_limit) len node_limit
