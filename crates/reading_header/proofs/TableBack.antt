-- The table of the last values, from the lines of an export's header.
use mathlib.Core.Path.{◌≡◌, refl}
use mathlib.Core.Bool.{Bool, true, false, cond}
use mathlib.Core.List.{List, [], ◌∷◌, ◌++◌}
use Prim.Native.Nat.{ℕ, ◌+◌}
use lib.Dec.{eqb}
use lib.ListN.{length}
use Rattle.read_lines.specs.Each.{Each}
use Rattle.header_keys.specs.declared.Key.{Key}
use Rattle.header_keys.specs.Keys.{slot_of}
use Rattle.header_lines.specs.Sweep.{Span, part, last_from, last_of}
use Rattle.header_lines.specs.Sweep as sweep
use Rattle.header_lines.proofs.Lasts.{last-at}
use Rattle.header_values.specs.Values.{KnownKey, value_in}
use Rattle.header.specs.Header.{table_of}
use Rattle.heading.specs.Lines.{HeaderLine, line_text}
use Rattle.reading_header.specs.Spans.{line_value, span_of, said_from, last_line_value}
use Rattle.reading_header.proofs.LinesBack.{LinesBack, then, Early, closing, all_back}

module _ (f : List ℕ) (k : Key) where
  -- the bytes of a span
  abbrev bytes_at : Span → List ℕ
  bytes_at s = part f s.start s.end

  -- the last value among lines, after one that stands at v and has the bytes w
  value-from : (ls : List HeaderLine) (at : ℕ) (v : Span) (w : List ℕ) → LinesBack f at (ls ++ closing) → bytes_at v ≡ w
      → bytes_at (last_from v k (said_from at ls)) ≡ last_line_value w k ls
  unfolding last_from said_from last_line_value
  value-from [] at v w b e = e
  value-from (l ∷ ls) at v w (then b rest) e =
      value-from ls (at + length (line_text l)) _ _ rest (by (eqb (slot_of k) (slot_of l.key)))
    where
      by : (t : Bool) → bytes_at (cond t (span_of at l) v) ≡ cond t (line_value l) w
      by true = b.bytes
      by false = e

  -- A key's value in the table is that of the last line with it.
  pub table-back : (ls : List HeaderLine) → LinesBack f 0 (ls ++ closing) → Each Early ls → KnownKey k → value_in f (table_of f) k ≡ last_line_value [] k ls
  unfolding table_of last_of
  table-back ls b h n = rw (all_back f ls b h, last-at k (said_from 0 ls) n) (value-from ls 0 sweep.no_span [] b refl)

module _ (k : Key) where
  -- The last value among lines and further ones.
  pub value-append : (v : List ℕ) (ls ms : List HeaderLine) → last_line_value v k (ls ++ ms) ≡ last_line_value (last_line_value v k ls) k ms
  unfolding last_line_value
  value-append v [] ms = refl
  value-append v (l ∷ ls) ms = value-append (cond (eqb (slot_of k) (slot_of l.key)) (line_value l) v) ls ms
