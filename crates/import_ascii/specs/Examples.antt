-- Node lines of text, computed by hand: those of document 01's example, lines for each refusal, and lines with an extra word.
use Rattle.std.specs.Prelude.{◌≡◌, ℕ, suc, List, [], ◌∷◌, Bool, false, length, pos, negsuc}
use Rattle.codes.specs.Texts.{bytes}
use Rattle.codes.specs.Answer.{Step, got, fails}
use Rattle.node_lines.specs.Line.{Line, terminal, inner}
use Rattle.node_lines.specs.Decode.{NodeLines, node_lines, all_read, stopped, decode_from}
use Rattle.import_ascii.specs.Text.{text_line_at}

-- two support positions, at the levels 0 and 1
abbrev pub levels : List ℕ
levels = 0 ∷ 1 ∷ []

-- so many lines of a text, from its top, with no extra words
abbrev pub decoded_text : ℕ → List ℕ → NodeLines
decoded_text k f = decode_from (λ seats n at. text_line_at false levels seats n f at) k [] 1 0

-- document 01's example
abbrev pub example_text_nodes : List ℕ
example_text_nodes = bytes "1 T 0 0\n2 1 1 -1\n3 0 2 -1\n"

abbrev pub example_text_lines : NodeLines
example_text_lines = node_lines (terminal ∷ inner 1 (pos 1) (negsuc 0) ∷ inner 0 (pos 2) (negsuc 0) ∷ []) (all_read 26)

-- a line is its own child: the line before is read
abbrev pub own : List ℕ
own = bytes "1 T 0 0\n2 1 2 1\n3 0 2 -1\n"

abbrev pub own_lines : NodeLines
own_lines = node_lines (terminal ∷ []) (stopped 35 2)

-- a text that ends early
abbrev pub short : List ℕ
short = bytes "1 T 0 0\n"

abbrev pub short_lines : NodeLines
short_lines = node_lines (terminal ∷ []) (stopped 30 2)

-- a line after lines of these seats, and what is read
pub record TextRow : Type 0 where
  pub seats : List ℕ
  pub text : List ℕ
  pub answer : Step Line

abbrev pub row : List ℕ → List ℕ → Step Line → TextRow
row seats f r = record { seats = seats; text = f; answer = r }

-- each row is read so, with an extra word or with none
abbrev pub AllLines : Bool → List TextRow → Type 0
AllLines extra [] = Unit
AllLines extra (r ∷ rs) = (text_line_at extra levels r.seats (suc (length r.seats)) r.text 0 ≡ r.answer) × AllLines extra rs

-- a terminal line before; and one at the support position 0, too
abbrev pub one : List ℕ
one = 0 ∷ []

abbrev pub two : List ℕ
two = 0 ∷ 1 ∷ []

-- lines that are read
abbrev pub accepted : List TextRow
accepted =
    row one (bytes "2 1 1 -1\n") (got (inner 1 (pos 1) (negsuc 0)) 9)
    ∷ row one (bytes "2 1 1 -1") (got (inner 1 (pos 1) (negsuc 0)) 8)
    ∷ row one (bytes "  02\t1 1  -1 \r\n3 0 2 -1\n") (got (inner 1 (pos 1) (negsuc 0)) 15)
    ∷ row one (bytes "2 T 0 0\n") (got terminal 8)
    ∷ row one (bytes "2 T 7 0\n") (got terminal 8)  -- the other child is parsed but unused
    ∷ row one (bytes "2 T -0 7\n") (got terminal 9)
    ∷ row two (bytes "3 0 1 1\n") (got (inner 0 (pos 1) (pos 1)) 8)
    ∷ []

-- one line at least for each refusal
abbrev pub text_refusals : List TextRow
text_refusals =
    row one (bytes "\n") (fails 14)
    ∷ row one (bytes "x 0 1 -1\n") (fails 14)
    ∷ row one (bytes "2 x 1 -1\n") (fails 14)
    ∷ row one (bytes "2 T 1 -1\n") (fails 14)  -- `T` above children that aren't 0
    ∷ row one (bytes "18446744073709551616 0 1 -1\n") (fails 15)
    ∷ row one (bytes "2 4294967296 1 -1\n") (fails 15)
    ∷ row one (bytes "2 0 1 -9223372036854775808\n") (fails 15)
    ∷ row one (bytes "2 0 1 a\n") (fails 16)
    ∷ row one (bytes "2 0 1 --1\n") (fails 17)
    ∷ row one (bytes "2 0 1-1\n") (fails 17)
    ∷ row one (bytes "2 0 1 - 1\n") (fails 17)  -- a minus touches its digit: no blank,
    ∷ row one (bytes "2 0 1 -\t1\n") (fails 17)  -- no tab,
    ∷ row one (bytes "2 0 1 1 -\r\n") (fails 17)  -- and not the end
    ∷ row one (bytes "") (fails 30)
    ∷ row one (bytes "1 0 1 -1\n") (fails 31)
    ∷ row one (bytes "3 0 1 -1\n") (fails 31)
    ∷ row one (bytes "2\n") (fails 32)  -- a number alone
    ∷ row one (bytes "2 0\n") (fails 32)
    ∷ row one (bytes "2 0 1\n") (fails 32)
    ∷ row one (bytes "2 0 1 1 1\n") (fails 32)
    ∷ row one (bytes "2 0 1 0\n") (fails 33)
    ∷ row one (bytes "2 TT 0 0\n") (fails 33)
    ∷ row one (bytes "2 2 1 -1\n") (fails 34)
    ∷ row one (bytes "2 0 2 1\n") (fails 35)
    ∷ row one (bytes "2 0 1 -2\n") (fails 35)
    ∷ row two (bytes "3 0 2 1\n") (fails 36)
    ∷ row two (bytes "3 1 1 -2\n") (fails 36)
    ∷ []

-- which refusal comes first
abbrev pub firsts : List TextRow
firsts =
    row one (bytes "1 x 1\n") (fails 31)
    ∷ row one (bytes "2 x 1 a\n") (fails 16)  -- the child list is judged before the variable word
    ∷ row one (bytes "2 0 - a\n") (fails 17)  -- the blank after a minus stands before a
    ∷ row one (bytes "2 0 -a -\n") (fails 16)  -- and a before the end
    ∷ row one (bytes "2 x 1\n") (fails 32)
    ∷ row one (bytes "2 x 0 a\n") (fails 16)
    ∷ row one (bytes "2 2 2 2\n") (fails 34)
    ∷ row two (bytes "3 0 3 2\n") (fails 35)  -- each child in turn
    ∷ row two (bytes "3 0 2 3\n") (fails 36)
    ∷ []

-- lines with an extra word
abbrev pub extras : List TextRow
extras =
    row one (bytes "2 gate 1 1 -1\n") (got (inner 1 (pos 1) (negsuc 0)) 14)
    ∷ row one (bytes "2 1 T 0 0\n") (got terminal 10)
    ∷ row one (bytes "2 gate\n") (fails 32)
    ∷ row one (bytes "2 1 1 -1\n") (fails 32)
    ∷ row one (bytes "2 1 gate 1 -1\n") (fails 14)
    ∷ []
