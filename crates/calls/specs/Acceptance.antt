-- When a load is accepted. Document 01: 'load gives 1 (lists), 3, 19 for the input's length, header, 1 (scratch), 2, nodes, 39'; no condition
-- speaks of a load's answer, and each is a rule, not the function that judges it.
use Rattle.std.specs.Prelude.{ℕ, ◌≤◌, ◌≡◌, List, length}
use Rattle.codes.specs.Limits.{Limits, var_limit, root_limit}
use Rattle.read_lines.specs.Each.{Each}
use Rattle.header_lines.specs.Sweep.{lines_of}
use Rattle.header_lines.specs.SoundLines.{SoundLines}
use Rattle.header_values.specs.Values.{nnodes_in, nsuppvars_in, roots_in}
use Rattle.header_checks.specs.WholeRules.{WholeRules}
use Rattle.support.specs.Support.{IdsAllowed}
use Rattle.store.specs.Store.{Store}
use Rattle.store.specs.Rules.{Rules}
use Rattle.header.specs.Header.{Header, header_in, table_of}
use Rattle.header.specs.HeaderSaid.{ListsSaid}
use Rattle.imported.specs.Acceptance as nodes
use Rattle.calls.specs.Load.{Load, Loaded, variable_lists, root_lists, setup_of}

pub record Accepts (m : Limits) (c : Load) (σ : Store) : Type 0 where
  -- '1 a lent part too short: 4,096 entries for each variable list, 1,024 for each root list'
  pub variables_long : Each (λ n. var_limit ≤ n) (variable_lists c.lent)
  pub roots_long : Each (λ n. root_limit ≤ n) (root_lists c.lent)
  -- '3 the store breaks its rules'
  pub rules : Rules m σ
  -- '19 for the input's length': 'input [the limit] bytes'
  pub short : length c.file ≤ m.input
  -- 'The file's writer, line by line': the input has `.nodes`, and each line before it has a known key and a sound value; what follows starts
  -- at a position, after so many lines
  pub next : ℕ
  pub lines : ℕ
  pub header_lines : SoundLines c.file (lines_of c.file) next lines
  -- 'The file's writer, header as a whole': its rules, phrase by phrase
  pub whole : WholeRules m c.file (table_of c.file)
  -- '1 a lent part too short: .. `.nnodes` for node scratch'
  pub edges_long : nnodes_in c.file (table_of c.file) ≤ c.lent.edges
  pub seats_long : nnodes_in c.file (table_of c.file) ≤ c.lent.seats
  -- '2 the level list isn't one level per support variable, strictly ascending, below the store's level count'
  pub levels_counted : length c.list ≡ nsuppvars_in c.file (table_of c.file)
  pub levels_allowed : IdsAllowed σ.levels c.list
  -- 'The file's writer, nodes': all lines can be read and `.end` follows; 'Whoever filled the store': it has room for the nodes needed
  pub node_lines : nodes.NodesAccepted m (setup_of c σ.levels (header_in c.file (table_of c.file) next lines)) σ c.file next

-- what a load leaves in its lists beside the roots is what the file's lines say, where they say this header
abbrev pub LoadedLists : List ℕ → Header → Loaded → Type 0
LoadedLists f h r =
    ListsSaid f h r.ids r.order r.permids r.auxids r.names r.rootnames (roots_in f (table_of f))
