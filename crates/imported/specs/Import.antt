-- The nodes of a file, read into the store. Document 01, 'Node lines'; 'Order: .. nodes, 39'.
use Rattle.std.specs.Prelude.{ℕ, ◌+◌, ◌≤◌, ◌<◌, ◌^◌, ◌≡◌, Bool, true, false, cond, not, ◌&&◌, List, [], ◌∷◌, map, length, take, drop, ℤ, pos, nat_abs, eqb}
use Rattle.edges.specs.Width.{position_limit}
use Rattle.codes.specs.Texts.{bytes}
use Rattle.codes.specs.Answer.{Read, value, refused, Step}
use Rattle.codes.specs.Bytes.{is_whitespace}
use Rattle.read_text.specs.Alike.{alike}
use Rattle.store.specs.Store.{Store}
use Rattle.codes.specs.Limits.{Limits, node_limit}
use Rattle.node_lines.specs.Line.{Line}
use Rattle.node_lines.specs.Decode.{NodeLines, DecodeEnd, all_read, stopped, decode_from}
use Rattle.import_ascii.specs.Text.{text_line_at}
use Rattle.import_bin.specs.Bin.{bin_line_at}
use Rattle.imported.specs.Build.{edge_for, AllEdges, Built, build}

-- what the nodes of a file are read by, beside its bytes: mode A or not; whether lines have an extra word; how many lines there are; how
-- many lines the header has; the level list; the store's level count
pub record Setup : Type 0 where
  pub ascii : Bool
  pub extra : Bool
  pub nnodes : ℕ
  pub lines : ℕ
  pub list : List ℕ
  pub levels : ℕ

abbrev pub setup : Bool → Bool → ℕ → ℕ → List ℕ → ℕ → Setup
setup ascii extra nnodes lines list levels = record {
  ascii = ascii;
  extra = extra;
  nnodes = nnodes;
  lines = lines;
  list = list;
  levels = levels;
}

-- the node line of either mode at a position
unfoldable pub line_by : Bool → Bool → List ℕ → ℕ → List ℕ → List ℕ → ℕ → ℕ → Step Line
line_by ascii extra list levels f seats n at = cond ascii (text_line_at extra list seats n f at) (bin_line_at levels list seats n f at)

abbrev pub line_at : Setup → List ℕ → List ℕ → ℕ → ℕ → Step Line
line_at u f seats n at = line_by u.ascii u.extra u.list u.levels f seats n at

-- the node lines of a file, from a position on
unfoldable pub lines_in : Setup → List ℕ → ℕ → NodeLines
lines_in u f at = decode_from (line_at u f) u.nnodes [] 1 at

-- the nodes are read, up to a position; or a refusal and its line
pub data NodesAnswer : Type 0 where
  nodes : ℕ → NodesAnswer
  refusal : ℕ → ℕ → NodesAnswer

-- 'ASCII node lines carry theirs, but for 30 and 40', and binary ones have line 0
abbrev pub line_for : Bool → ℕ → ℕ → ℕ
line_for ascii line k = cond (ascii && not (eqb k 30)) line 0

abbrev pub ended_lines : Setup → DecodeEnd → NodesAnswer
ended_lines u (all_read at) = nodes at
ended_lines u (stopped k n) = refusal k (line_for u.ascii (u.lines + n) k)

-- A line that finds no room comes before any later line's own fault: '40°'.
abbrev pub answer_by : Setup → DecodeEnd → Read (List ℤ) → NodesAnswer
answer_by u e (value edges) = ended_lines u e
answer_by u e (refused k) = refusal k 0

-- the lines made into the store
abbrev pub built_from : Limits → Setup → Store → List ℕ → ℕ → Built
built_from m u σ f at = build m u.list σ (lines_in u f at).lines

unfoldable pub lines_answer : Limits → Setup → Store → List ℕ → ℕ → NodesAnswer
lines_answer m u σ f at = answer_by u (lines_in u f at).end (built_from m u σ f at).answer

-- 'After `.end` only space, tab, LF, FF, CR, else 39'
unfoldable pub blank_all : List ℕ → Bool
blank_all [] = true
blank_all (x ∷ s) = is_whitespace x && blank_all s

abbrev pub end_word : List ℕ
end_word = bytes ".end"

unfoldable pub ends_well : List ℕ → ℕ → Bool
ends_well f at = alike (take 4 (drop at f)) end_word && blank_all (drop (at + 4) f)

-- '39° no `.end`', after the last line
abbrev pub with_end : List ℕ → NodesAnswer → NodesAnswer
with_end f (nodes at) = cond (ends_well f at) (nodes at) (refusal 39 0)
with_end f (refusal k line) = refusal k line

-- the edges of all lines; none on a refusal
abbrev pub edges_of : Read (List ℤ) → List ℤ
edges_of (value edges) = edges
edges_of (refused k) = []

-- A root: the edge of its line, turned over under a minus. An unused entry of the lent list is 0 and stays so.
abbrev pub root_edge : List ℤ → ℤ → ℤ
root_edge edges r = cond (eqb (nat_abs r) 0) (pos 0) (edge_for edges r)

-- are the nodes read?
abbrev pub is_read : NodesAnswer → Bool
is_read (nodes at) = true
is_read (refusal k line) = false

-- the roots of a file whose nodes are read; zeros otherwise
abbrev pub roots_by : Bool → List ℤ → List ℤ → List ℤ
roots_by true edges ids = map (root_edge edges) ids
roots_by false edges ids = map (λ r. pos 0) ids

-- What the nodes leave: the answer, the store, and the roots in place of their numbers. 'On any refusal outputs are all zeros and the
-- store is unchanged.'
pub record Imported : Type 0 where
  pub answer : NodesAnswer
  pub after : Store
  pub roots : List ℤ

abbrev pub imported_by : List ℤ → Store → Built → NodesAnswer → Imported
imported_by ids σ b a = record { answer = a; after = cond (is_read a) b.after σ; roots = roots_by (is_read a) (edges_of b.answer) ids }

unfoldable pub import_of : Limits → Setup → Store → List ℕ → ℕ → List ℤ → Imported
import_of m u σ f at ids = imported_by ids σ (built_from m u σ f at) (with_end f (lines_answer m u σ f at))

-- the edges of the lines lie over the front of a list, where all were made
abbrev pub Laid : Read (List ℤ) → List ℤ → Type 0
Laid (value edges) l = take (length edges) l ≡ edges
Laid (refused k) l = Unit

-- where the nodes are read each entry is an edge
abbrev pub EdgesIf : Bool → List ℤ → Type 0
EdgesIf true edges = AllEdges edges
EdgesIf false edges = Unit

-- what the calls lean on: limits that were judged before
pub record Bounded (u : Setup) (edges seats : ℕ) : Type 0 where
  pub nodes : u.nnodes ≤ node_limit
  pub edges_long : u.nnodes ≤ edges
  pub seats_long : u.nnodes ≤ seats
  pub few_levels : length u.list < position_limit
  pub few_lines : u.lines < 2 ^ 32
