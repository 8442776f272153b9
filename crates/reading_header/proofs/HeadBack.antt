-- A file that starts with an export's header: its lines end behind `.nodes`, and its table has what the header says.
use mathlib.Core.Path.{◌≡◌, ap, ◌∙◌}
use mathlib.Core.List.{List, ◌++◌}
use Prim.Native.Nat.{ℕ}
use native.Mathlib.Omega.{arith}
use lib.ListN.{length}
use Rattle.read_lines.specs.Each.{Each, none, each}
use Rattle.header_lines.specs.Sweep.{lines_of, end_of, at_nodes}
use Rattle.header_values.specs.Values.{value_in}
use Rattle.header.specs.Header.{table_of}
use Rattle.heading.specs.Lines.{lines_text}
use Rattle.heading.specs.Heading.{Heading, head_lines, head_text}
use Rattle.reading_header.specs.HeaderBack.{Fit}
use Rattle.reading_header.proofs.Elements.{each-by, each_append}
use Rattle.reading_header.proofs.LineBack.{Written}
use Rattle.reading_header.proofs.LinesBack.{LinesBack, lines_back, Early, closing, end_back}
use Rattle.reading_header.proofs.TableBack.{table-back}
use Rattle.reading_header.proofs.HeadLines.{groups_of, together, head-lines}
use Rattle.reading_header.proofs.HeadSound.{Sound, lines-plain, early-sound}
use Rattle.reading_header.proofs.HeadValues.{HeadValues, head-values}

module _ {h : Heading} (fit : Fit h) (f r : List ℕ) (e : f ≡ head_text h ++ r) where
  sound : Each Sound (together (groups_of h))
  sound = early-sound fit

  early : Each Early (together (groups_of h))
  early = each-by (λ l s. s.early) sound

  written : Each Written (together (groups_of h) ++ closing)
  written = each_append (each-by (λ l s. s.written) sound) (each (record { known = omega arith; words = none }) none)

  back : LinesBack f 0 (together (groups_of h) ++ closing)
  unfolding head_text
  back = lines_back f 0 (together (groups_of h) ++ closing) r (e ∙ ap (λ ls. lines_text ls ++ r) (head-lines h)) written

  -- They end behind the header, whose last line that of `.nodes` is.
  pub head-end : end_of f (lines_of f) ≡ at_nodes (length (head_text h)) (length (head_lines h))
  unfolding head_text
  head-end = rw (head-lines h) (end_back f (together (groups_of h)) back early (each-by (λ l s. s.faultless) sound))

  -- What the table has for each key.
  pub head-table : HeadValues h (value_in f (table_of f))
  head-table = head-values h (lines-plain fit) (value_in f (table_of f)) (λ k n. table-back f k (together (groups_of h)) back early n)
