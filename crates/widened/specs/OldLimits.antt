-- The limits of old stores, and of the calls on them. Document 02, request 5: 'judged by the old rules'.
use Rattle.std.specs.Prelude.{◌≤◌}
use Rattle.codes.specs.Limits.{Limits, var_limit}

-- document 01: '`.nnodes` 32,767', 'input 16,777,216 bytes'
abbrev pub old_limits : Limits
old_limits = record { nodes = 32767; levels = var_limit; input = 16777216 }

-- limits that allow at least as much
pub record Wider (m w : Limits) : Type 0 where
  pub nodes : m.nodes ≤ w.nodes
  pub levels : m.levels ≤ w.levels
  pub input : m.input ≤ w.input
