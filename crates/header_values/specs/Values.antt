-- What the last value of each key says. Document 01, 'Header'. A table holds the span of each key's last value; a missing key has a span
-- of no bytes. Each value was judged before, so that here a number or a list is what its reader gives.
use Rattle.std.specs.Prelude.{ℕ, ◌^◌, ◌<◌, List, [], ◌∷◌, Bool, cond, not, get_or, replicate, ℤ}
use Rattle.codes.specs.Answer.{Read, value, refused}
use Rattle.codes.specs.Limits.{var_limit, root_limit}
use Rattle.codes.specs.Lent.{laid}
use Rattle.read_numbers.specs.Number.{single}
use Rattle.read_lists.specs.Lists.{Listed, u32_list}
use Rattle.read_edges.specs.Edges.{edge_list}
use Rattle.read_text.specs.Text.{Place, place, name_list, text_at}
use Rattle.read_text.specs.Alike.{alike}
use Rattle.header_keys.specs.Keys.{slot_of}
use Rattle.header_faults.specs.Judge.{mode_b}
use Rattle.header_lines.specs.Sweep.{Span, span, no_span, part, keys}
use Rattle.header_keys.specs.declared.Key.{Key}
use Rattle.header_keys.specs.declared.Key.TheVariants.{Mode, Varinfo, Dd, Nnodes, Nvars, Nsuppvars, Nroots, Rootids}

-- the spans that two lists, of starts and of ends, hold
unfoldable pub spans : List ℕ → List ℕ → List Span
spans [] es = []
spans (s ∷ ss) [] = []
spans (s ∷ ss) (e ∷ es) = span s e ∷ spans ss es

-- the last value of a key: where it stands, and its bytes
abbrev pub span_in : List Span → Key → Span
span_in t k = get_or t (slot_of k) no_span

abbrev pub value_in : List ℕ → List Span → Key → List ℕ
value_in f t k = part f (span_in t k).start (span_in t k).end

-- the value that was read, or another one
abbrev pub value_or : {A : Type 0} → A → Read A → A
value_or d (value a) = a
value_or d (refused n) = d

-- the entries of a list that was read
abbrev pub entries_by : {A : Type 0} → List A → Read ℕ → List A
entries_by es (value n) = es
entries_by es (refused n) = []

abbrev pub entries_of : {A : Type 0} → Listed A → List A
entries_of l = entries_by l.entries l.answer

-- a number; 0 where it is missing
unfoldable pub number_in : ℕ → List ℕ → List Span → Key → ℕ
number_in lim f t k = value_or 0 (single lim (value_in f t k))

abbrev pub nnodes_in : List ℕ → List Span → ℕ
nnodes_in f t = number_in (2 ^ 64) f t Nnodes

abbrev pub nvars_in : List ℕ → List Span → ℕ
nvars_in f t = number_in (2 ^ 32) f t Nvars

abbrev pub nsuppvars_in : List ℕ → List Span → ℕ
nsuppvars_in f t = number_in (2 ^ 32) f t Nsuppvars

abbrev pub nroots_in : List ℕ → List Span → ℕ
nroots_in f t = number_in (2 ^ 64) f t Nroots

-- 'mode defaults to A'
unfoldable pub ascii_in : List ℕ → List Span → Bool
ascii_in f t = not (alike (value_in f t Mode) mode_b)

-- 'varinfo to 4'
abbrev pub varinfo_of : List ℕ → ℕ
varinfo_of s =
    cond (alike s (0x30 ∷ [])) 0
    (cond (alike s (0x31 ∷ [])) 1
    (cond (alike s (0x32 ∷ [])) 2
    (cond (alike s (0x33 ∷ [])) 3
    4)))

unfoldable pub varinfo_in : List ℕ → List Span → ℕ
varinfo_in f t = varinfo_of (value_in f t Varinfo)

-- 'An empty .. `.dd` is start 0, length 0.'
unfoldable pub dd_in : List ℕ → List Span → Place
dd_in f t = value_or (place 0 0) (text_at (span_in t Dd).start (value_in f t Dd))

-- lists; empty where they are missing
unfoldable pub u32s_in : List ℕ → List Span → Key → List ℕ
u32s_in f t k = entries_of (u32_list var_limit (value_in f t k))

unfoldable pub names_in : ℕ → List ℕ → List Span → Key → List Place
names_in max f t k = entries_of (name_list max (span_in t k).start (value_in f t k))

unfoldable pub roots_in : List ℕ → List Span → List ℤ
roots_in f t = entries_of (edge_list root_limit (value_in f t Rootids))

-- the roots that were read, also where a later entry is refused
unfoldable pub roots_read : List ℕ → List Span → List ℤ
roots_read f t = (edge_list root_limit (value_in f t Rootids)).entries

-- a lent list of n entries: the entries used, and zeros
abbrev pub pad : ℕ → List ℕ → List ℕ
pad n es = laid es (replicate n 0)

-- a key that there is
abbrev pub KnownKey : Key → Type 0
KnownKey k = slot_of k < keys
