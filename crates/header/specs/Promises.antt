-- What judging and loading a header promises, over the parts that are lent to it.
use Rattle.std.specs.Prelude.{ℕ, ◌≡◌, List, Result, Ok, Err, map, ℤ, pos, length, replicate}
use Rattle.codes.specs.Limits.{limits}
use Rattle.codes.specs.Lent.{Part, old, new, laid}
use Rattle.read_text.specs.Text.{start_of, len_of}
use Rattle.header_lines.specs.Sweep.{Span, SweepEnd, at_nodes, refused_at, Table, EndWithin, span_start, span_end, lines_of, sound, lasts}
use Rattle.codes.specs.declared.refusal.Fault.{Fault}
use Rattle.header_lines.specs.Kinds.{of_swept}
use Rattle.header_values.specs.Values.{pad}
use Rattle.header.specs.Header as meant
use Rattle.header.specs.Header.{HeaderAnswer, header, refusal, header_in, swept_after, left_by, load_header, NextWithin}
use Rattle.header.specs.Kinds.{Loaded, of_loaded}

-- The lines, where nothing was found before; each span of the table lies inside the file.
pub record SweptPromise (f : Part (List ℕ)) (found : ℕ) (starts ends : Part (List ℕ)) (r : Result (ℕ × ℕ) Fault) : Type 0 where
  pub answer : of_swept r ≡ swept_after found (old f)
  pub within : EndWithin (old f) (of_swept r)
  pub table : Table (old f) (new starts) (new ends)
  pub starts_left : found ≡ 0 → new starts ≡ map span_start (lasts (sound (old f) (lines_of (old f))))
  pub ends_left : found ≡ 0 → new ends ≡ map span_end (lasts (sound (old f) (lines_of (old f))))

-- the answer by what the lines and the header as a whole gave
abbrev pub settled_of : List ℕ → List Span → Result Unit Fault → SweepEnd → HeaderAnswer
settled_of f t (Ok u) (at_nodes next lines) = header (header_in f t next lines)
settled_of f t (Err r) (at_nodes next lines) = refusal r.number r.line
settled_of f t w (refused_at n line) = refusal n line

-- lists stay with a header; 'on any refusal outputs are all zeros'
pub record KeepPromise (loaded : Loaded) (starts ends ids permids : Part (List ℕ)) : Type 0 where
  pub starts_left : new starts ≡ left_by (of_loaded loaded) (old starts)
  pub ends_left : new ends ≡ left_by (of_loaded loaded) (old ends)
  pub ids_left : new ids ≡ left_by (of_loaded loaded) (old ids)
  pub permids_left : new permids ≡ left_by (of_loaded loaded) (old permids)

module _ (f : Part (List ℕ)) (found : ℕ) (ids order permids auxids names lens : Part (List ℕ)) (roots : Part (List ℤ))
    (rootnames rootlens : Part (List ℕ)) where
  -- a load of the header, after what was found before
  abbrev load : meant.HeaderLoaded
  load = load_header limits found (old f)

  -- 'On any refusal outputs are all zeros ..; on success unused output is zero.'
  pub record LoadHeaderPromise (r : Loaded) : Type 0 where
    pub answer : of_loaded r ≡ load.answer
    -- the position after `.nodes`' line lies inside the file
    pub within : NextWithin (old f) (of_loaded r)
    pub ids_left : new ids ≡ pad (length (old ids)) load.ids
    pub order_left : new order ≡ pad (length (old order)) load.order
    pub permids_left : new permids ≡ pad (length (old permids)) load.permids
    pub auxids_left : new auxids ≡ pad (length (old auxids)) load.auxids
    pub names_left : new names ≡ pad (length (old names)) (map start_of load.names)
    pub lens_left : new lens ≡ pad (length (old lens)) (map len_of load.names)
    pub roots_left : new roots ≡ laid load.roots (replicate (length (old roots)) (pos 0))
    pub rootnames_left : new rootnames ≡ pad (length (old rootnames)) (map start_of load.rootnames)
    pub rootlens_left : new rootlens ≡ pad (length (old rootlens)) (map len_of load.rootnames)
