-- The header of a file: what it says, or its refusal.
use Rattle.std.specs.Prelude.{ℕ, zero, suc, ◌≤◌, ◌≡◌, List, [], ◌∷◌, Bool, true, ◌&&◌, length, replicate, ℤ, leb, ltb}
use Rattle.codes.specs.Limits.{Limits, var_limit, root_limit}
use Rattle.read_text.specs.Text.{Place}
use Rattle.header_lines.specs.Sweep.{Span, no_span, keys, SweepEnd, at_nodes, refused_at, lines_of, all_of, end_of, lasts}
use Rattle.header_keys.specs.declared.Key.TheVariants.{Ids, Permids, Auxids, Rootnames}
use Rattle.support.specs.Support.{support_order}
use Rattle.header_values.specs.Values.{nnodes_in, nvars_in, nsuppvars_in, nroots_in, ascii_in, varinfo_in, dd_in, u32s_in, names_in, roots_in}
use Rattle.header_checks.specs.Names.{variable_names_in}
use Rattle.codes.specs.Faults.{first_fault, when, unless}
use Rattle.header_checks.specs.Whole.{whole_fault}

-- the numbers of a header: mode A or not, varinfo, the place of the diagram's name, the counts, the position after `.nodes`' line, and the
-- number of lines
pub record Header : Type 0 where
  pub ascii : Bool
  pub varinfo : ℕ
  pub dd : Place
  pub nnodes : ℕ
  pub nvars : ℕ
  pub nsuppvars : ℕ
  pub nroots : ℕ
  pub next : ℕ
  pub lines : ℕ

-- a header, or a refusal and its line
pub data HeaderAnswer : Type 0 where
  header : Header → HeaderAnswer
  refusal : ℕ → ℕ → HeaderAnswer

-- the numbers, by the last value of each key
abbrev pub header_in : List ℕ → List Span → ℕ → ℕ → Header
header_in f t next lines = record {
  ascii = ascii_in f t;
  varinfo = varinfo_in f t;
  dd = dd_in f t;
  nnodes = nnodes_in f t;
  nvars = nvars_in f t;
  nsuppvars = nsuppvars_in f t;
  nroots = nroots_in f t;
  next = next;
  lines = lines;
}

-- the table of the last values of a file's header
unfoldable pub table_of : List ℕ → List Span
table_of f = lasts (all_of (lines_of f))

-- after the lines the header as a whole, whose refusals have line 0
abbrev pub settled : List ℕ → List Span → ℕ → ℕ → ℕ → HeaderAnswer
settled f t next lines zero = header (header_in f t next lines)
settled f t next lines (suc n) = refusal (suc n) 0

abbrev pub judged_header : Limits → List ℕ → SweepEnd → HeaderAnswer
judged_header m f (refused_at n line) = refusal n line
judged_header m f (at_nodes next lines) = settled f (table_of f) next lines (whole_fault m f (table_of f))

-- 'header': its lines, then the header as a whole
unfoldable pub read_of : Limits → List ℕ → HeaderAnswer
read_of m f = judged_header m f (end_of f (lines_of f))

-- The header is read where nothing was found before, which is 0; what was found is a refusal with line 0.
abbrev pub after : Limits → ℕ → List ℕ → HeaderAnswer
after m zero f = read_of m f
after m (suc n) f = refusal (suc n) 0

-- each of the lengths is enough
unfoldable pub at_least : ℕ → List ℕ → Bool
at_least least [] = true
at_least least (n ∷ l) = leb least n && at_least least l

-- '1 a lent part too short: 4,096 entries for each variable list, 1,024 for each root list', by the lengths of the lent lists; 0 where none
-- is too short
unfoldable pub lists_fault : List ℕ → List ℕ → ℕ
lists_fault vars roots = unless (at_least var_limit vars && at_least root_limit roots) 1

-- 'input [the limit] bytes (19, line 0, before all reading)', by the input's length; 0 where it isn't too long
unfoldable pub length_fault : Limits → ℕ → ℕ
length_fault m n = when (ltb m.input n) 19

-- the same after what was found before, 0 of nothing
unfoldable pub length_after : Limits → ℕ → ℕ → ℕ
length_after m found n = first_fault (found ∷ length_fault m n ∷ [])

-- what reading leans on: where nothing was found before, the input isn't too long
abbrev pub MayRead : Limits → ℕ → List ℕ → Type 0
MayRead m found f = found ≡ 0 → length f ≤ m.input

-- a file's header by itself: '19 for the input's length, header'
unfoldable pub answer_of : Limits → List ℕ → HeaderAnswer
answer_of m f = after m (length_fault m (length f)) f

-- What a load of the header leaves: its answer, and the entries of each lent list, which are followed by zeros.
pub record HeaderLoaded : Type 0 where
  pub answer : HeaderAnswer
  pub ids : List ℕ
  pub order : List ℕ
  pub permids : List ℕ
  pub auxids : List ℕ
  pub names : List Place
  pub roots : List ℤ
  pub rootnames : List Place

-- the lists that a table gives
abbrev pub lists_in : List ℕ → List Span → HeaderAnswer → HeaderLoaded
lists_in f t a = record {
  answer = a;
  ids = u32s_in f t Ids;
  order = support_order (nvars_in f t) (u32s_in f t Ids) (u32s_in f t Permids);
  permids = u32s_in f t Permids;
  auxids = u32s_in f t Auxids;
  names = variable_names_in f t;
  roots = roots_in f t;
  rootnames = names_in root_limit f t Rootnames;
}

-- 'On any refusal outputs are all zeros'
abbrev pub nothing : HeaderAnswer → HeaderLoaded
nothing a = record { answer = a; ids = []; order = []; permids = []; auxids = []; names = []; roots = []; rootnames = [] }

abbrev pub lists_by : List ℕ → HeaderAnswer → HeaderLoaded
lists_by f (header h) = lists_in f (table_of f) (header h)
lists_by f (refusal n line) = nothing (refusal n line)

-- A load of a file's header, after what was found before.
unfoldable pub load_header : Limits → ℕ → List ℕ → HeaderLoaded
load_header m found f = lists_by f (after m found f)

-- the table that the last phase reads: none on a refusal
abbrev pub table_by : List ℕ → HeaderAnswer → List Span
table_by f (header h) = table_of f
table_by f (refusal n line) = replicate keys no_span

-- the position after `.nodes`' line lies inside the file
abbrev pub NextWithin : List ℕ → HeaderAnswer → Type 0
NextWithin f (header h) = h.next ≤ length f
NextWithin f (refusal n line) = Unit

-- What the steps of a load say: the lines, where nothing was found before,
abbrev pub swept_after : ℕ → List ℕ → SweepEnd
swept_after zero f = end_of f (lines_of f)
swept_after (suc n) f = refused_at (suc n) 0

-- what was found wrong with them, 0 of nothing,
abbrev pub found_in : SweepEnd → ℕ
found_in (at_nodes next lines) = 0
found_in (refused_at n line) = n

-- their refusal,
abbrev pub refused_by : SweepEnd → HeaderAnswer
refused_by (at_nodes next lines) = refusal 0 0
refused_by (refused_at n line) = refusal n line

-- the answer by them and by the header as a whole,
abbrev pub settled_by : List ℕ → List Span → ℕ → SweepEnd → HeaderAnswer
settled_by f t fault (at_nodes next lines) = settled f t next lines fault
settled_by f t fault (refused_at n line) = refusal n line

-- and a list of the table by the answer: zeros on a refusal
abbrev pub left_by : HeaderAnswer → List ℕ → List ℕ
left_by (header h) l = l
left_by (refusal n line) l = replicate (length l) 0
