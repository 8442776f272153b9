-- The lines of a header, and the last value of each key. Document 01, 'Header'.
use Rattle.std.specs.Prelude.{◌≡◌, ℕ, zero, suc, ◌+◌, ◌-◌, ◌≤◌, ◌<◌, List, [], ◌∷◌, map, true, false, cond, length, take, drop, get_or, ltb, eqb, Option, Some}
use Rattle.codes.specs.Answer.{Read, value, refused}
use Rattle.read_lines.specs.Line.{line_of, field_of}
use Rattle.read_lines.specs.declared.Field.{Field}
use Rattle.header_keys.specs.Keys.{key_of, slot_of, entry_of}
use Rattle.header_faults.specs.Judge.{word_fault}
use Rattle.header_keys.specs.declared.Key.{Key}
use Rattle.header_keys.specs.declared.Key.TheVariants.{Ver, Mode, Varinfo, Dd, Nnodes, Nvars, Nsuppvars, Nroots, Nodes, Varnames, Suppvarnames, Orderedvarnames, Ids, Permids, Auxids, Rootids, Rootnames}
use Rattle.header_lines.specs.declared.Step.{Step}
use Rattle.header_lines.specs.declared.Step.TheVariants as step

-- the bytes of a file from a position to another
abbrev pub part : List ℕ → ℕ → ℕ → List ℕ
part f a e = take (e - a) (drop a f)

-- where a value starts and ends
pub record Span : Type 0 where
  pub start : ℕ
  pub end : ℕ

abbrev pub span : ℕ → ℕ → Span
span a e = record { start = a; end = e }

abbrev pub span_start : Span → ℕ
span_start s = s.start

abbrev pub span_end : Span → ℕ
span_end s = s.end

-- the span of a key that is missing: it holds no byte
abbrev pub no_span : Span
no_span = span 0 0

-- a line before `.nodes`: its key, unless its word is none, and where its value stands
pub record Said : Type 0 where
  pub key : Option Key
  pub value : Span

abbrev pub said_word : Option Key → Span → Said
said_word k v = record { key = k; value = v }

abbrev pub said : Key → Span → Said
said k v = said_word (Some k) v

-- The lines of a header, from the top: they end with the line whose key is `.nodes`, with the position after it, or where the input
-- is cut.
pub data Lines : Type 0 where
  cut : Lines
  nodes : ℕ → Lines
  line : Said → Lines → Lines

-- 'The key runs to the first space or tab; the value is trimmed of both': the line at a position
abbrev pub field_at : List ℕ → ℕ → Field
field_at f at = field_of f at (line_of f at).end

abbrev pub key_at : List ℕ → ℕ → Option Key
key_at f at = key_of (part f at (field_at f at).key)

abbrev pub value_at : List ℕ → ℕ → Span
value_at f at = span (field_at f at).start (field_at f at).end

-- the lines from a position on, at most as many as the number says
unfoldable pub lines_from : ℕ → List ℕ → ℕ → Lines
lines_from zero f at = cut
lines_from (suc n) f at =
    elim (ltb at (length f)) [
      | true ↦ elim (eqb (entry_of (key_at f at)) (slot_of Nodes)) [
        | true ↦ nodes (line_of f at).next
        | false ↦ line (said_word (key_at f at) (value_at f at)) (lines_from n f (line_of f at).next)
      ]
      | false ↦ cut
    ]

-- every line takes at least a byte of the file
unfoldable pub lines_of : List ℕ → Lines
lines_of f = lines_from (length f) f 0

-- the refusal of a line, 0 of none
abbrev pub fault_in : List ℕ → Said → ℕ
fault_in f s = word_fault s.key s.value.start (part f s.value.start s.value.end)

-- how the lines end: with `.nodes`, the position after its line and that line's number; or with a refusal and its line
pub data SweepEnd : Type 0 where
  at_nodes : ℕ → ℕ → SweepEnd
  refused_at : ℕ → ℕ → SweepEnd

-- 'The line counts from 1 at the top of the file': the first line with a fault decides; '10° input ends before `.nodes`'
unfoldable pub end_from : ℕ → List ℕ → Lines → SweepEnd
end_from n f cut = refused_at 10 0
end_from n f (nodes next) = at_nodes next n
end_from n f (line s ls) = elim (fault_in f s) [ zero ↦ end_from (n + 1) f ls | suc k ↦ refused_at (suc k) n ]

unfoldable pub end_of : List ℕ → Lines → SweepEnd
end_of f ls = end_from 1 f ls

-- the lines before `.nodes`, or before the end of the input
unfoldable pub all_of : Lines → List Said
all_of cut = []
all_of (nodes next) = []
all_of (line s ls) = s ∷ all_of ls

-- those before the first fault
unfoldable pub sound : List ℕ → Lines → List Said
sound f cut = []
sound f (nodes next) = []
sound f (line s ls) = elim (fault_in f s) [ zero ↦ s ∷ sound f ls | suc k ↦ [] ]

-- 'A repeated key: the last counts': where the last value of a key stands, after lines whose last one stands at v
unfoldable pub last_from : Span → Key → List Said → Span
last_from v k [] = v
last_from v k (s ∷ ss) = last_from (cond (eqb (slot_of k) (entry_of s.key)) s.value v) k ss

unfoldable pub last_of : Key → List Said → Span
last_of k ss = last_from no_span k ss

-- the keys, each at its entry
abbrev pub all : List Key
all =
    Ver ∷ Mode ∷ Varinfo ∷ Dd ∷ Nnodes ∷ Nvars ∷ Nsuppvars ∷ Nroots ∷ Nodes
    ∷ Varnames ∷ Suppvarnames ∷ Orderedvarnames ∷ Ids ∷ Permids ∷ Auxids ∷ Rootids ∷ Rootnames ∷ []

-- how many there are
abbrev pub keys : ℕ
keys = 17

-- the table of the last values, one for each key
unfoldable pub lasts : List Said → List Span
lasts ss = map (λ k. last_of k ss) all

-- What the line at a position leads to, as the code says it: the entry of its key and the span of its value, `.nodes`, or a refusal.
unfoldable pub step_at : List ℕ → ℕ → Read Step
step_at f at =
    elim (eqb (entry_of (key_at f at)) (slot_of Nodes)) [
      | true ↦ value (step.Nodes (line_of f at).next)
      | false ↦ elim (fault_in f (said_word (key_at f at) (value_at f at))) [
        | zero ↦ value (step.Value (entry_of (key_at f at)) (value_at f at).start (value_at f at).end (line_of f at).next)
        | suc n ↦ refused (suc n)
      ]
    ]

-- what callers lean on: an entry of the table, a span inside the file, and a next line that is further on
pub record Within (f : List ℕ) (at slot start end next : ℕ) : Type 0 where
  pub known : slot < keys
  pub ordered : start ≤ end
  pub inside : end ≤ length f
  pub next_after : at < next
  pub next_before : next ≤ length f

abbrev pub StepWithin : List ℕ → ℕ → Step → Type 0
StepWithin f at (step.Value slot start end next) = Within f at slot start end next
StepWithin f at (step.Nodes next) = next ≤ length f

-- two lists that hold the spans of a table, each inside the file
pub record Table (f : List ℕ) (starts ends : List ℕ) : Type 0 where
  pub starts_long : length starts ≡ keys
  pub ends_long : length ends ≡ keys
  pub ordered : (k : ℕ) → get_or starts k 0 ≤ get_or ends k 0
  pub inside : (k : ℕ) → get_or ends k 0 ≤ length f

-- the position after `.nodes`' line lies inside the file
abbrev pub EndWithin : List ℕ → SweepEnd → Type 0
EndWithin f (at_nodes next n) = next ≤ length f
EndWithin f (refused_at k n) = Unit
