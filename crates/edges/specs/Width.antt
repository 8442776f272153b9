-- How wide an edge is. With the aliases of src/lib.rt this is what a wider edge changes.
use Rattle.std.specs.Prelude.{ℕ, ◌^◌}
use Rattle.std.specs.Int.{Width, w32}

-- Document 02, request 5: 'Edges and next indices widen to 32 bits'
abbrev pub edge_width : Width
edge_width = w32

abbrev pub edge_bits : ℕ
edge_bits = 32

-- what the magnitude of an edge, and so the number of a node, lies below
abbrev pub edge_limit : ℕ
edge_limit = 2 ^ 31

-- Levels and support positions are numbers of 16 bits: what they lie below.
abbrev pub position_limit : ℕ
position_limit = 2 ^ 16
