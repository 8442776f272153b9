-- Document 01, 'Limits', by name; src/limits.rt has them for the code. The definitions of later layers take those that may rise as a parameter.
use Rattle.std.specs.Prelude.{ℕ, ◌+◌, ◌*◌, ◌^◌, ◌≤◌, ◌<◌}

-- '`.nvars` 4,096', '4,096 entries in a variable list', 'a store has at most 4,096 levels'
abbrev pub var_limit : ℕ
var_limit = 4096

-- '1,024 in a root list'
abbrev pub root_limit : ℕ
root_limit = 1024

-- Document 02, request 5: 'the store and `.nnodes` to 1,000,000'
abbrev pub node_limit : ℕ
node_limit = 1000000

-- 'and the input limit to 67,108,864 bytes'
abbrev pub input_limit : ℕ
input_limit = 67108864

-- The limits that a later version may raise are parameters of every definition that has them: an old store, and an old call, is judged by the
-- limits of its time.
pub record Limits : Type 0 where
  -- of a store's count and of `.nnodes`
  pub nodes : ℕ
  -- of a store's levels
  pub levels : ℕ
  -- of an input's bytes
  pub input : ℕ

-- today's
abbrev pub limits : Limits
limits = record { nodes = node_limit; levels = var_limit; input = input_limit }

-- Limits under which every export is an input: 'Export size: 256 + 32 × store count + 24 × levels + 16 × roots + 3 × variable name bytes + root
-- name bytes + diagram name bytes', where a name has at most 255 bytes.
pub record RoomForExports (m : Limits) : Type 0 where
  -- levels become variables: '`.nvars` 4,096'
  pub few_levels : m.levels ≤ var_limit
  -- 32 bytes are enough for a node line of numbers that have up to seven digits
  pub few_digits : m.nodes < 10 ^ 7
  pub input_long : 256 + 32 * m.nodes + 24 * m.levels + 16 * root_limit + 3 * (255 * m.levels) + 255 * root_limit + 255 ≤ m.input
