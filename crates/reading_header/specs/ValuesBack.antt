-- A file that starts with an export's header: what the last value of each key says.
use Rattle.std.specs.Prelude.{ℕ, ◌≡◌, List, [], map, length, get_or}
use Rattle.codes.specs.Limits.{root_limit}
use Rattle.read_text.specs.Text.{Place, place}
use Rattle.header_lines.specs.Sweep.{Span}
use Rattle.header_keys.specs.declared.Key.TheVariants.{Ids, Permids, Auxids, Rootnames}
use Rattle.header_values.specs.Values.{nnodes_in, nvars_in, nsuppvars_in, nroots_in, u32s_in, names_in, roots_in}
use Rattle.header_checks.specs.Names.{varnames_in, orderedvarnames_in, suppvarnames_in}
use Rattle.export_names.specs.Names.{name_at}
use Rattle.heading.specs.Heading.{Heading}
use Rattle.reading_header.specs.HeadWords.{ids_of, levels_of, varname_words, suppvarname_words, orderedvarname_words}

-- places where a file has given names, each as long as its name
pub record Named (f : List ℕ) (ps : List Place) (names : List (List ℕ)) : Type 0 where
  pub there : map (name_at f) ps ≡ names
  pub long : (i : ℕ) → (get_or ps i (place 0 0)).len ≡ length (get_or names i [])

-- what the last values say, by the file and the table of their spans
pub record ValuesBack (h : Heading) (f : List ℕ) (t : List Span) : Type 0 where
  pub nnodes : nnodes_in f t ≡ h.nnodes
  pub nvars : nvars_in f t ≡ length h.order
  pub nsuppvars : nsuppvars_in f t ≡ length h.support
  pub nroots : nroots_in f t ≡ length h.rootids
  pub ids : u32s_in f t Ids ≡ ids_of h
  pub permids : u32s_in f t Permids ≡ levels_of h
  pub auxids : u32s_in f t Auxids ≡ []
  pub varnames : Named f (varnames_in f t) (varname_words h)
  pub suppvarnames : Named f (suppvarnames_in f t) (suppvarname_words h)
  pub orderedvarnames : Named f (orderedvarnames_in f t) (orderedvarname_words h)
  pub roots : roots_in f t ≡ h.rootids
  pub rootnames : Named f (names_in root_limit f t Rootnames) h.rootnames
