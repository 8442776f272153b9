-- Node lines in binary, computed by hand: document 01's example, ways to write one line, and files for each refusal of a line.
use Rattle.std.specs.Prelude.{◌≡◌, ℕ, List, [], ◌∷◌, ◌++◌, length, replicate, pos, negsuc}
use Rattle.node_lines.specs.Line.{terminal, inner}
use Rattle.node_lines.specs.Decode.{NodeLines, node_lines, all_read, stopped, decode_from}
use Rattle.import_bin.specs.Bin.{bin_line_at}

-- the first lines of a file whose support positions 0 and 1 have the levels 0 and 1, by the store's level count
abbrev pub decoded_binary : ℕ → ℕ → List ℕ → NodeLines
decoded_binary count k f = decode_from (λ seats n at. bin_line_at count (0 ∷ 1 ∷ []) seats n f at) k [] 1 0

-- starred: the nodes of document 01's example in binary
abbrev pub example_bytes : List ℕ
example_bytes = 0x00 ∷ 0x00 ∷ 0x24 ∷ 0x02 ∷ 0x7c ∷ []

abbrev pub example_binary_lines : NodeLines
example_binary_lines = node_lines (terminal ∷ inner 1 (pos 1) (negsuc 0) ∷ inner 0 (pos 2) (negsuc 0) ∷ []) (all_read 5)

-- a level count, a file, and the support position of its second line
pub record Reading : Type 0 where
  pub count : ℕ
  pub file : List ℕ
  pub position : ℕ

abbrev pub reading : ℕ → List ℕ → ℕ → Reading
reading n f p = record { count = n; file = f; position = p }

-- each is two lines: a terminal, and one whose then says what the terminal says and whose else the opposite
abbrev pub ReadSo : List Reading → Type 0
ReadSo [] = Unit
ReadSo (r ∷ rs) =
    (decoded_binary r.count 2 r.file ≡ node_lines (terminal ∷ inner r.position (pos 1) (negsuc 0) ∷ []) (all_read (length r.file))) × ReadSo rs

abbrev pub readings : List Reading
readings =
    reading 2 (0x00 ∷ 0x00 ∷ 0x24 ∷ 0x02 ∷ []) 1  -- children by the terminal's code
    ∷ reading 2 (0x00 ∷ 0x00 ∷ 0xa4 ∷ 0x02 ∷ []) 1  -- bit 7 is ignored
    ∷ reading 2 (0x00 ∷ 0x00 ∷ 0x2d ∷ 0x02 ∷ 0x02 ∷ 0x02 ∷ []) 1  -- children by their numbers
    ∷ reading 2 (0x00 ∷ 0x00 ∷ 0x36 ∷ 0x02 ∷ 0x02 ∷ 0x02 ∷ []) 1  -- children by their distances
    ∷ reading 2 (0x00 ∷ 0x00 ∷ 0x3f ∷ 0x02 ∷ []) 1  -- children one before
    ∷ reading 2 (0x00 ∷ 0x00 ∷ 0x24 ∷ 0x01 ∷ 0x01 ∷ 0x02 ∷ []) 1  -- leading zero groups pass
    ∷ reading 2 (0x00 ∷ 0x00 ∷ 0x24 ∷ 0x00 ∷ 0x00 ∷ []) 0  -- a number in an escaped byte
    ∷ reading 2 (0x00 ∷ 0x00 ∷ 0x64 ∷ []) 1  -- over two terminals: one below the level count
    ∷ reading 2 (0x00 ∷ 0x00 ∷ 0x44 ∷ 0x04 ∷ []) 0  -- over two terminals: two below the level count
    ∷ reading 1 (0x00 ∷ 0x00 ∷ 0x64 ∷ []) 0  -- the level count, not the length of the level list
    ∷ []

-- a level count, a file, and the number and node of the refusal of one of its first four lines
pub record BinaryRow : Type 0 where
  pub count : ℕ
  pub file : List ℕ
  pub number : ℕ
  pub node : ℕ

abbrev pub row : ℕ → List ℕ → ℕ → ℕ → BinaryRow
row n f k l = record { count = n; file = f; number = k; node = l }

abbrev pub RefusedSo : List BinaryRow → Type 0
RefusedSo [] = Unit
RefusedSo (r ∷ rs) = ((decoded_binary r.count 4 r.file).end ≡ stopped r.number r.node) × RefusedSo rs

abbrev pub binary_refusals : List BinaryRow
binary_refusals =
    row 2 [] 30 1  -- no code byte
    ∷ row 2 (0x00 ∷ []) 30 1  -- half an escape
    ∷ row 2 (0x00 ∷ 0x00 ∷ 0x24 ∷ []) 30 2  -- no number of a variable
    ∷ row 2 (0x00 ∷ 0x00 ∷ 0x24 ∷ 0x03 ∷ []) 30 2  -- a number without its last group
    ∷ row 2 (0x00 ∷ 0x00 ∷ 0x28 ∷ 0x02 ∷ []) 30 2  -- no number of a then
    ∷ row 2 (0x00 ∷ 0x00 ∷ 0x21 ∷ 0x02 ∷ []) 30 2  -- no number of an else
    ∷ row 2 (0x00 ∷ 0x00 ∷ 0x24 ∷ 0x02 ∷ []) 30 3  -- no third line
    ∷ row 2 (0x00 ∷ 0x04 ∷ []) 37 1  -- no byte that an escape has
    ∷ row 2 (0x00 ∷ 0x00 ∷ 0x24 ∷ 0x00 ∷ 0x04 ∷ []) 37 2  -- nor one in a number
    ∷ row 2 (0x00 ∷ 0x00 ∷ 0x24 ∷ 0x03 ∷ (replicate 9 0x01 ++ (0x02 ∷ []))) 38 2  -- starred: 03, nine times 01, 02
    ∷ row 2 (0x24 ∷ 0x02 ∷ []) 35 1  -- no line is below the first
    ∷ row 2 (0x00 ∷ 0x00 ∷ 0x28 ∷ 0x02 ∷ 0x00 ∷ 0x00 ∷ []) 35 2  -- a then 0
    ∷ row 2 (0x00 ∷ 0x00 ∷ 0x21 ∷ 0x02 ∷ 0x00 ∷ 0x00 ∷ []) 35 2  -- an else 0
    ∷ row 2 (0x00 ∷ 0x00 ∷ 0x28 ∷ 0x02 ∷ 0x04 ∷ []) 35 2  -- a then that is its own node
    ∷ row 2 (0x00 ∷ 0x00 ∷ 0x21 ∷ 0x02 ∷ 0x06 ∷ []) 35 2  -- an else that is a later node
    ∷ row 2 (0x00 ∷ 0x00 ∷ 0x30 ∷ 0x02 ∷ 0x00 ∷ 0x00 ∷ []) 35 2  -- a distance 0
    ∷ row 2 (0x00 ∷ 0x00 ∷ 0x30 ∷ 0x02 ∷ 0x04 ∷ []) 35 2  -- a distance that leads to 0
    ∷ row 2 (0x00 ∷ 0x00 ∷ 0x30 ∷ 0x02 ∷ 0x06 ∷ []) 35 2  -- a distance above the node's own number
    ∷ row 2 (0x00 ∷ 0x00 ∷ 0x29 ∷ 0x02 ∷ 0x00 ∷ 0x00 ∷ []) 35 2  -- then's 35, where else's number is missing
    ∷ row 2 (0x00 ∷ 0x00 ∷ 0x29 ∷ 0x02 ∷ 0x00 ∷ 0x00 ∷ 0x00 ∷ 0x04 ∷ []) 35 2  -- then's 35, where else's number has a bad escape
    ∷ row 2 (0x00 ∷ 0x00 ∷ 0x21 ∷ 0x04 ∷ 0x00 ∷ 0x00 ∷ []) 35 2  -- else's 35, where the variable is out of range
    ∷ row 2 (0x00 ∷ 0x00 ∷ 0x24 ∷ 0x04 ∷ []) 34 2  -- a written position that isn't below `.nsuppvars`
    ∷ row 2 (0x00 ∷ 0x00 ∷ 0x44 ∷ 0x06 ∷ []) 34 2  -- over two terminals, three below a level count of 2
    ∷ row 2 (0x00 ∷ 0x00 ∷ 0x44 ∷ 0x00 ∷ 0x00 ∷ []) 34 2  -- over two terminals, a level count that isn't below `.nsuppvars`
    ∷ row 3 (0x00 ∷ 0x00 ∷ 0x64 ∷ []) 34 2  -- nor is one below a level count of 3
    ∷ row 2 (0x00 ∷ 0x00 ∷ 0x20 ∷ 0x00 ∷ 0x00 ∷ 0x78 ∷ []) 34 3  -- one below then's position 0
    ∷ row 2 (0x00 ∷ 0x00 ∷ 0x24 ∷ 0x02 ∷ 0x58 ∷ 0x04 ∷ []) 34 3  -- two below then's position 1
    ∷ row 2 (0x00 ∷ 0x00 ∷ 0x24 ∷ 0x02 ∷ 0x43 ∷ 0x04 ∷ []) 34 3  -- two below else's position 1
    ∷ row 2 (0x00 ∷ 0x00 ∷ 0x24 ∷ 0x02 ∷ 0x7c ∷ 0x79 ∷ 0x04 ∷ []) 34 4  -- one below the smaller position 0, which is then's
    ∷ row 2 (0x00 ∷ 0x00 ∷ 0x24 ∷ 0x02 ∷ 0x7c ∷ 0x6b ∷ 0x04 ∷ []) 34 4  -- one below the smaller position 0, which is else's
    ∷ row 2 (0x00 ∷ 0x00 ∷ 0x24 ∷ 0x02 ∷ 0x38 ∷ 0x02 ∷ []) 36 3  -- then at the line's own level
    ∷ row 2 (0x00 ∷ 0x00 ∷ 0x24 ∷ 0x02 ∷ 0x23 ∷ 0x02 ∷ []) 36 3  -- else at the line's own level
    ∷ row 2 (0x00 ∷ 0x00 ∷ 0x20 ∷ 0x00 ∷ 0x00 ∷ 0x38 ∷ 0x02 ∷ []) 36 3  -- then above the line
    ∷ []
