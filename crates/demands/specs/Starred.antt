-- The starred cases of document 01, 'Tried by hand', all in one table, with the two that document 02, request 3, changes; proofs/Starred.antt
-- proves every row.
use Rattle.std.specs.Prelude.{ℕ, ◌≡◌, true, false, List, [], ◌∷◌, ◌++◌, length, take, replicate, ℤ, pos, neg_ℤ}
use Rattle.codes.specs.Answer.{refused, Step, got, fails}
use Rattle.codes.specs.Limits.{limits, root_limit}
use Rattle.read_lists.specs.Lists.{Listed, listed}
use Rattle.read_edges.specs.Edges.{edge_list}
use Rattle.read_binary.specs.Binary.{number_at}
use Rattle.read_text.specs.Text.{place}
use Rattle.writers.specs.Binary.{seven_bit}
use Rattle.store.specs.Store.{Store}
use Rattle.store.specs.Empty.{empty}
use Rattle.header.specs.Header.{Header, HeaderAnswer, header, refusal}
use Rattle.codes.specs.Texts.{bytes}
use Rattle.node_lines.specs.Line.{Line, terminal, inner}
use Rattle.node_lines.specs.Decode.{node_lines, all_read}
use Rattle.imported.specs.Import.{setup, lines_in}
use Rattle.numbering.specs.Numbering.{numbering}
use Rattle.export_nodes.specs.Lines.{lines_for}
use Rattle.node_writers.specs.Encoded.{node_bytes}
use Rattle.calls.specs.Load.{Load, Loaded, setup_of, load_of}
use Rattle.demands.specs.Examples.{enough_for, example_load, example_header}

-- what a load of document 01's example leaves in an empty store of two levels and three slots, and the roots that it gives
abbrev pub example_left : Loaded
example_left = load_of limits example_load (empty 2 3)

abbrev pub example_roots : List ℤ
example_roots = take example_header.nroots example_left.roots

-- The node lines of document 01's example, 'those nodes', and their bytes in binary.
pub record ThoseNodes (ls : List Line) (w : List ℕ) : Type 0 where
  -- the example is accepted, and these are the lines of its text
  pub accepted : example_left.answer ≡ header example_header
  pub of_text : (lines_in (setup_of example_load 2 example_header) example_load.file example_header.next).lines ≡ ls
  -- the roots that it gives have these lines again, in the store that it leaves and numbered as an export numbers them
  pub of_store : lines_for example_left.after (numbering example_left.after example_roots) ≡ ls
  -- in binary they are written as these bytes
  pub written : node_bytes false ls ≡ w
  -- and the bytes are read as these lines
  pub read : lines_in (setup false false 3 0 (0 ∷ 1 ∷ []) 2) w 0 ≡ node_lines ls (all_read (length w))

-- A row: the nodes of the example; a number of a binary file, written as bytes that read back as it; bytes that are read as such a number
-- or refused; a root list, and what it reads as; a load, its answer, and the entries of `.ids` that it gives.
pub data StarredRow : Type 0 where
  nodes : List Line → List ℕ → StarredRow
  number : ℕ → List ℕ → StarredRow
  reads : List ℕ → Step ℕ → StarredRow
  roots : List ℕ → Listed ℤ → StarredRow
  loads : Load → Store → HeaderAnswer → List ℕ → StarredRow

abbrev pub Holds : StarredRow → Type 0
Holds (nodes ls w) = ThoseNodes ls w
Holds (number n w) = (seven_bit n ≡ w) × (number_at w 0 ≡ got n (length w))
Holds (reads w a) = number_at w 0 ≡ a
Holds (roots s a) = edge_list root_limit s ≡ a
Holds (loads c σ a ids) = ((load_of limits c σ).answer ≡ a) × ((load_of limits c σ).ids ≡ ids)

abbrev pub AllRows : List StarredRow → Type 0
AllRows [] = Unit
AllRows (r ∷ rs) = Holds r × AllRows rs

-- files with the ids 0 and 2, of three variables and of two
abbrev pub three_variables : Load
three_variables = record {
  file = bytes ".nvars 3\n.nsuppvars 2\n.ids 0 2\n.permids 0 1\n.nodes\n.end\n";
  list = 0 ∷ 1 ∷ [];
  lent = enough_for 0;
}

abbrev pub two_variables : Load
two_variables = record {
  file = bytes ".nvars 2\n.nsuppvars 2\n.ids 0 2\n.permids 0 1\n.nodes\n.end\n";
  list = 0 ∷ 1 ∷ [];
  lent = enough_for 0;
}

abbrev pub three_header : Header
three_header = record {
  ascii = true;
  varinfo = 4;
  dd = place 0 0;
  nnodes = 0;
  nvars = 3;
  nsuppvars = 2;
  nroots = 0;
  next = 51;
  lines = 5;
}

abbrev pub starred : List StarredRow
starred =
    -- those nodes in binary: 00 00 24 02 7c
    nodes
    (terminal ∷ inner 1 (pos 1) (neg_ℤ (pos 1)) ∷ inner 0 (pos 2) (neg_ℤ (pos 1)) ∷ [])
    (0x00 ∷ 0x00 ∷ 0x24 ∷ 0x02 ∷ 0x7c ∷ [])
    -- 5: 00 01
    ∷ number 5 (0x00 ∷ 0x01 ∷ [])
    -- 127: fe
    ∷ number 127 (0xfe ∷ [])
    -- 128: 03 00 00
    ∷ number 128 (0x03 ∷ 0x00 ∷ 0x00 ∷ [])
    -- 768: 00 02 00 00
    ∷ number 768 (0x00 ∷ 0x02 ∷ 0x00 ∷ 0x00 ∷ [])
    -- 01 01 02 reads 1
    ∷ reads (0x01 ∷ 0x01 ∷ 0x02 ∷ []) (got 1 3)
    -- 03, nine times 01, 02: 38
    ∷ reads (0x03 ∷ (replicate 9 0x01 ++ (0x02 ∷ []))) (fails 38)
    -- `- 5 7`: 17, since request 3 of document 02
    ∷ roots (bytes "- 5 7") (listed (refused 17) [])
    -- `3 -`: 17, likewise
    ∷ roots (bytes "3 -") (listed (refused 17) (pos 3 ∷ []))
    -- `3-`: 17
    ∷ roots (bytes "3-") (listed (refused 17) [])
    -- ids `0 2`, three variables: accepted
    ∷ loads three_variables (empty 3 1) (header three_header) (0 ∷ 2 ∷ [])
    -- two variables: 22
    ∷ loads two_variables (empty 2 1) (refusal 22 0) []
    -- 13: 00 03
    ∷ number 13 (0x00 ∷ 0x03 ∷ [])
    ∷ []
