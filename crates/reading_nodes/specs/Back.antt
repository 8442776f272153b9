-- The node lines of an export, read back into the store that they came from, at its own levels.
use Rattle.std.specs.Prelude.{ℕ, ◌+◌, ◌≡◌, Bool, false, List, ◌++◌, map, length, drop, replicate, ℤ, pos, nat_abs}
use Rattle.codes.specs.Limits.{Limits}
use Rattle.codes.specs.Lent.{laid}
use Rattle.store.specs.Store.{Store}
use Rattle.node_lines.specs.Line.{Line, terminal, inner}
use Rattle.node_lines.specs.Decode.{node_lines, all_read}
use Rattle.numbering.specs.Support.{support_of}
use Rattle.export_nodes.specs.Lines.{renumbered, lines_for}
use Rattle.node_writers.specs.Encoded.{node_bytes, end_text}
use Rattle.imported.specs.Import.{Setup, setup, lines_in, nodes, import_of}

-- how the nodes of an export are read: with no extra word, at the levels of the support, after a header of so many lines
abbrev pub setup_back : Bool → Store → List ℕ → ℕ → Setup
setup_back ascii σ ns lines = setup ascii false (length ns) lines (support_of σ ns) σ.levels

-- the nodes of an export stand in a file from a position on, and its end after them
abbrev pub Stand : Bool → Store → List ℕ → List ℕ → ℕ → Type 0
Stand ascii σ ns f at = drop at f ≡ node_bytes ascii (lines_for σ ns) ++ end_text

-- 'then is positive': a binary line has no place for a minus of then
abbrev pub ThenPlain : Line → Type 0
ThenPlain terminal = Unit
ThenPlain (inner p t e) = t ≡ pos (nat_abs t)

-- Each line is read as itself.
abbrev pub LinesBack : Bool → Store → List ℕ → List ℕ → ℕ → ℕ → Type 0
LinesBack ascii σ ns f at lines =
    lines_in (setup_back ascii σ ns lines) f at ≡ node_lines (lines_for σ ns) (all_read (at + length (node_bytes ascii (lines_for σ ns))))

-- The nodes are accepted, the store is the one before, with no new node, and the roots are the same, signs included. The roots' numbers
-- stand in a lent list, which is longer; its unused entries are 0.
pub record NodesBack (m : Limits) (ascii : Bool) (σ : Store) (roots : List ℤ) (ns f : List ℕ) (at lines lent : ℕ) : Type 0 where
  pub lines_back : LinesBack ascii σ ns f at lines
  pub imported : import_of m (setup_back ascii σ ns lines) σ f at (laid (map (renumbered ns) roots) (replicate lent (pos 0)))
      ≡ record { answer = nodes (at + length (node_bytes ascii (lines_for σ ns))); after = σ; roots = laid roots (replicate lent (pos 0)) }
