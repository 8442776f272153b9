-- The node lines of a file, one after the other, as far as they can be read, and how reading ended. They follow from the file's bytes, the
-- level list and the store's level count, never from the store's nodes.
use Rattle.std.specs.Prelude.{ℕ, zero, suc, ◌+◌, List, [], ◌∷◌, ◌++◌}
use Rattle.codes.specs.Answer.{Step, got, fails}
use Rattle.node_lines.specs.Line.{Line, seat_of_line}

-- all lines were read, up to a position; or one, of a number, was refused
pub data DecodeEnd : Type 0 where
  all_read : ℕ → DecodeEnd
  stopped : ℕ → ℕ → DecodeEnd

pub record NodeLines : Type 0 where
  pub lines : List Line
  pub end : DecodeEnd

abbrev pub node_lines : List Line → DecodeEnd → NodeLines
node_lines ls e = record { lines = ls; end = e }

abbrev pub more_lines : Line → NodeLines → NodeLines
more_lines l r = node_lines (l ∷ r.lines) r.end

-- The lines n, n + 1, .., k of them, from a position on, where a line is read by the seats of the lines before it, its number and its
-- position.
unfoldable pub decode_from : (List ℕ → ℕ → ℕ → Step Line) → ℕ → List ℕ → ℕ → ℕ → NodeLines
decode_from read zero seats n at = node_lines [] (all_read at)
decode_from read (suc k) seats n at =
    elim (read seats n at) [
      | got l next ↦ more_lines l (decode_from read k (seats ++ (seat_of_line l ∷ [])) (n + 1) next)
      | fails r ↦ node_lines [] (stopped r n)
    ]
