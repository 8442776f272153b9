-- What writing a header asks and promises.
use Rattle.std.specs.Prelude.{ℕ, ◌+◌, ◌≤◌, ◌≡◌, Bool, true, List, [], ◌∷◌, map, length, ℤ}
use Rattle.codes.specs.declared.DDDMPVersion.{DDDMPVersion}
use Rattle.codes.specs.Lent.{Part, old}
use Rattle.read_text.specs.Text.{place}
use Rattle.header_keys.specs.declared.Key.TheVariants.{Dd}
use Rattle.export_names.specs.Names.{name_at, names_at, name_list_fits}
use Rattle.writers.specs.Written.{FitsOut, Written}
use Rattle.export_nodes.specs.Tables.{line_number_of}
use Rattle.heading.specs.Lines.{line, lines_text}
use Rattle.heading.specs.Heading.{unless_empty, root_lines, head_text}
use Rattle.heading.specs.Tables.{Lent, lent, seated_levels, heading_by, Ordered, Rooted, NamesFit}

-- the line of the diagram's name, left out where it is empty
abbrev diagram_text : List ℕ → List ℕ
diagram_text name = lines_text (unless_empty name (line Dd (name ∷ [])))

-- 'with no roots `.rootnames` is left out'
abbrev roots_text : List ℤ → List ℕ → List (List ℕ) → List ℕ
roots_text roots numbers names = lines_text (root_lines (map (line_number_of numbers) roots) names)

-- the name lies inside the lent bytes, and there is room for its line
pub record DiagramAsks (out : List ℕ) (at : ℕ) (bytes : List ℕ) (start len : ℕ) : Type 0 where
  pub inside : start + len ≤ length bytes
  pub room : FitsOut out at (diagram_text (name_at bytes (place start len)))

-- the line of the diagram's name is written
abbrev pub DiagramPromise : Part (List ℕ) → ℕ → Part (List ℕ) → ℕ → ℕ → ℕ → Type 0
DiagramPromise out at bytes start len r = Written out at (diagram_text (name_at (old bytes) (place start len))) r

-- each root has a line, 'names are lent for all .. or none, likewise for roots', and there is room
pub record RootsAsks (out : List ℕ) (at : ℕ) (roots : List ℤ) (numbers bytes starts lens : List ℕ) : Type 0 where
  pub rooted : Rooted roots numbers
  pub names_do_fit : name_list_fits (length roots) bytes starts lens ≡ true
  pub room : FitsOut out at (roots_text roots numbers (names_at bytes starts lens))

-- the lines of the roots are written
abbrev pub RootsPromise : Part (List ℕ) → ℕ → Part (List ℤ) → Part (List ℕ) → Part (List ℕ) → Part (List ℕ) → Part (List ℕ) → ℕ → Type 0
RootsPromise out at roots numbers bytes starts lens r =
    Written out at (roots_text (old roots) (old numbers) (names_at (old bytes) (old starts) (old lens))) r

-- the tables of levels and nodes are filled, the names are fit, the support is counted, and there is room for the header
pub record HeaderAsks (version : DDDMPVersion) (ascii : Bool) (out : List ℕ) (at : ℕ) (bytes starts lens rootstarts rootlens : List ℕ)
    (ddstart ddlen nnodes nsuppvars : ℕ) (order vars seats : List ℕ) (roots : List ℤ) (numbers : List ℕ) : Type 0 where
  pub ordered : Ordered order vars seats
  pub rooted : Rooted roots numbers
  pub names : NamesFit (lent bytes starts lens rootstarts rootlens (place ddstart ddlen)) (length order) (length roots)
  pub counted : nsuppvars ≡ length (seated_levels seats)
  pub room : FitsOut out at
      (head_text
      (heading_by version ascii (lent bytes starts lens rootstarts rootlens (place ddstart ddlen)) nnodes order seats
      roots numbers))

module _ (version : DDDMPVersion) (ascii : Bool) (out : Part (List ℕ)) (at : ℕ) (bytes starts lens rootstarts rootlens : Part (List ℕ))
    (ddstart ddlen nnodes : ℕ) (order seats : Part (List ℕ)) (roots : Part (List ℤ)) (numbers : Part (List ℕ)) where
  abbrev old_names : Lent
  old_names = lent (old bytes) (old starts) (old lens) (old rootstarts) (old rootlens) (place ddstart ddlen)

  -- the header is written, up to the line `.nodes`
  abbrev pub HeaderPromise : ℕ → Type 0
  HeaderPromise r =
      Written out at (head_text (heading_by version ascii old_names nnodes (old order) (old seats) (old roots) (old numbers))) r
