-- The header that a file's lines say, with no word of how it is read: of each key what its last line says, and a default only where the key
-- is missing. Document 01, 'Header'.
use Rattle.std.specs.Prelude.{ℕ, ◌+◌, ◌^◌, ◌≡◌, true, List, [], length, ℤ}
use Rattle.std.proofs.Math.Option.{some}
use Rattle.codes.specs.Limits.{var_limit, root_limit}
use Rattle.read_text.specs.Text.{Place, place}
use Rattle.header_keys.specs.declared.Key.TheVariants.{Mode, Varinfo, Dd, Nnodes, Nvars, Nsuppvars, Nroots, Varnames, Suppvarnames, Orderedvarnames, Ids, Permids, Auxids, Rootids, Rootnames}
use Rattle.header_lines.specs.Sweep.{Said, lines_of, all_of}
use Rattle.header_lines.specs.SoundLines.{nodes_next}
use Rattle.header_lines.specs.Last.{SaidOf}
use Rattle.header_values.specs.Reading.{ReadsNumber, ReadsMode, ReadsVarinfo, ReadsText, ReadsNumbers, ReadsNames, ReadsRoots}
use Rattle.support.specs.Order.{ArrangedByPermid}
use Rattle.variable_names.specs.Rest.{NamesSaid}
use Rattle.header.specs.Header.{Header}

-- the lines before `.nodes`
abbrev pub head_lines_of : List ℕ → List Said
head_lines_of f = all_of (lines_of f)

-- the numbers of a header
pub record HeaderSaid (f : List ℕ) (h : Header) : Type 0 where
  -- 'mode defaults to A, varinfo to 4'
  pub mode_said : SaidOf Mode (ReadsMode f) true (head_lines_of f) h.ascii
  pub varinfo_said : SaidOf Varinfo (ReadsVarinfo f) 4 (head_lines_of f) h.varinfo
  -- 'An empty .. `.dd` is start 0, length 0'
  pub dd_said : SaidOf Dd (ReadsText f) (place 0 0) (head_lines_of f) h.dd
  -- '15 .. over 64 bits in `.nnodes`, `.nroots` .., over 32 in other unsigned ones'
  pub nnodes_said : SaidOf Nnodes (ReadsNumber (2 ^ 64) f) 0 (head_lines_of f) h.nnodes
  pub nvars_said : SaidOf Nvars (ReadsNumber (2 ^ 32) f) 0 (head_lines_of f) h.nvars
  pub nsuppvars_said : SaidOf Nsuppvars (ReadsNumber (2 ^ 32) f) 0 (head_lines_of f) h.nsuppvars
  pub nroots_said : SaidOf Nroots (ReadsNumber (2 ^ 64) f) 0 (head_lines_of f) h.nroots
  -- where the nodes start, and the number of `.nodes`' line
  pub next_said : nodes_next (lines_of f) ≡ some h.next
  pub lines_said : h.lines ≡ length (head_lines_of f) + 1

-- the lists of a header, the roots as numbers of lines among them
pub record ListsSaid (f : List ℕ) (h : Header) (ids order permids auxids : List ℕ) (names rootnames : List Place) (roots : List ℤ) : Type 0 where
  pub ids_said : SaidOf Ids (ReadsNumbers f) [] (head_lines_of f) ids
  pub permids_said : SaidOf Permids (ReadsNumbers f) [] (head_lines_of f) permids
  pub auxids_said : SaidOf Auxids (ReadsNumbers f) [] (head_lines_of f) auxids
  pub rootnames_said : SaidOf Rootnames (ReadsNames root_limit f) [] (head_lines_of f) rootnames
  pub roots_said : SaidOf Rootids (ReadsRoots f) [] (head_lines_of f) roots
  -- 'Support order is `.ids` arranged by ascending permid.'
  pub order_said : ArrangedByPermid ids permids order
  -- 'Names: `.varnames` first; else `.orderedvarnames` ..; else `.suppvarnames` ..'
  pub varnames : List Place
  pub orderedvarnames : List Place
  pub suppvarnames : List Place
  pub varnames_said : SaidOf Varnames (ReadsNames var_limit f) [] (head_lines_of f) varnames
  pub orderedvarnames_said : SaidOf Orderedvarnames (ReadsNames var_limit f) [] (head_lines_of f) orderedvarnames
  pub suppvarnames_said : SaidOf Suppvarnames (ReadsNames var_limit f) [] (head_lines_of f) suppvarnames
  pub names_said : NamesSaid h.nvars ids permids varnames orderedvarnames suppvarnames names
