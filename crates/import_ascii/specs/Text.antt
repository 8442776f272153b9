-- A node line of text. Document 01, 'Node lines': 'Text: number, extra word unless varinfo is 4, variable, two children.'
use Rattle.std.specs.Prelude.{ℕ, zero, suc, ◌^◌, List, Bool, cond, ◌||◌, length, drop, get_or, ℤ, nat_abs, ltb, eqb}
use Rattle.codes.specs.Texts.{bytes}
use Rattle.codes.specs.Answer.{Read, value, refused, Step, got, fails}
use Rattle.read_lines.specs.Line.{line_of}
use Rattle.read_numbers.specs.Number.{single}
use Rattle.read_edges.specs.Edges.{Pair, children}
use Rattle.read_text.specs.Alike.{alike}
use Rattle.header_lines.specs.Sweep.{part}
use Rattle.node_lines.specs.Line.{Line, terminal, inner, child_fault}
use Rattle.line_words.specs.Words.{variable_word}

-- '33 terminal described by other than `T`'
abbrev pub described_t : List ℕ → Read Line
described_t word = cond (alike word (bytes "T")) (value terminal) (refused 33)

-- 'each child in turn meets 35, then 36'
abbrev pub faultless : ℕ → ℕ → Line → Read Line
faultless zero zero l = value l
faultless zero (suc n) l = refused (suc n)
faultless (suc n) k l = refused (suc n)

-- 'Otherwise the variable is checked': 14, 15, and '34 variable out of range'
abbrev pub variable : List ℕ → List ℕ → ℕ → ℤ → ℤ → Read ℕ → Read Line
variable levels seats n t e (refused k) = refused k
variable levels seats n t e (value p) =
    cond (ltb p (length levels))
    (faultless (child_fault levels seats n (get_or levels p 0) t) (child_fault levels seats n (get_or levels p 0) e) (inner p t e))
    (refused 34)

-- 'The child list is read whole, then counted, before the variable word is judged. Any child 0 makes the line a terminal, its other
-- child parsed but unused.'
abbrev pub described : List ℕ → List ℕ → ℕ → List ℕ → Read Pair → Read Line
described levels seats n word (refused k) = refused k
described levels seats n word (value c) =
    cond (eqb c.count 2)
    (cond (eqb (nat_abs c.first) 0 || eqb (nat_abs c.second) 0)
    (described_t word)
    (variable levels seats n c.first c.second (single (2 ^ 32) word)))
    (refused 32)

-- a line of these bytes
abbrev pub by_word : List ℕ → List ℕ → ℕ → List ℕ → Step ℕ → Read Line
by_word levels seats n s (fails k) = refused k
by_word levels seats n s (got start end) = described levels seats n (part s start end) (children (drop end s))

unfoldable pub text_line : Bool → List ℕ → List ℕ → ℕ → List ℕ → Read Line
text_line extra levels seats n s = by_word levels seats n s (variable_word extra n s)

abbrev pub line_ends_at : ℕ → Read Line → Step Line
line_ends_at next (value l) = got l next
line_ends_at next (refused k) = fails k

-- The line at a position of a file; '30° ends early' where there is none. The level list has a level for each support position; the seats
-- are those of the lines before.
unfoldable pub text_line_at : Bool → List ℕ → List ℕ → ℕ → List ℕ → ℕ → Step Line
text_line_at extra levels seats n f at =
    cond (ltb at (length f)) (line_ends_at (line_of f at).next (text_line extra levels seats n (part f at (line_of f at).end))) (fails 30)
