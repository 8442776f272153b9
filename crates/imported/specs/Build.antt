-- Node lines made into the store, one after the other. Document 01, 'Store and meaning', and 'Whoever filled the store': '40° a line needs a
-- new node and every slot lent, or [the limit], is used'.
use Rattle.std.specs.Prelude.{ℕ, ◌+◌, ◌-◌, ◌≤◌, ◌<◌, ◌≡◌, true, List, [], ◌∷◌, ◌++◌, length, get_or, ℤ, pos, negsuc, neg_ℤ, nat_abs}
use Rattle.edges.specs.Width.{edge_limit}
use Rattle.codes.specs.Answer.{Read, value, refused}
use Rattle.store.specs.Store.{Store}
use Rattle.codes.specs.Limits.{Limits}
use Rattle.store.specs.Make.{Made, made, make}
use Rattle.store.specs.Room.{roomier, with_room}
use Rattle.node_lines.specs.Line.{Line, terminal, inner, seat_of_line, deeper}

-- 'turned over under a minus'
abbrev pub turned_over : ℤ → ℤ → ℤ
turned_over (pos n) e = e
turned_over (negsuc n) e = neg_ℤ e

-- the edge of a root or child, by the edges of the lines, which count from 1
unfoldable pub edge_for : List ℤ → ℤ → ℤ
edge_for edges c = turned_over c (get_or edges (nat_abs c - 1) (pos 1))

-- each is an edge
abbrev pub AllEdges : List ℤ → Type 0
AllEdges edges = (i : ℕ) → nat_abs (get_or edges i (pos 1)) < edge_limit

-- One line made into the store, after lines of these edges: a terminal line is node 1.
unfoldable pub add_line : Limits → List ℕ → Store → List ℤ → Line → Made
add_line m levels σ edges terminal = made (pos 1) σ
add_line m levels σ edges (inner p t e) = make m σ (get_or levels p 0) (edge_for edges t) (edge_for edges e)

-- the edges of all lines, or 40 at the first that finds no room, and the store afterwards
pub record Built : Type 0 where
  pub answer : Read (List ℤ)
  pub after : Store

abbrev pub built : Read (List ℤ) → Store → Built
built a σ = record { answer = a; after = σ }

abbrev pub onwards : Made → (ℤ → Store → Built) → Built
onwards r k = elim r.answer [ value a ↦ k a r.after | refused n ↦ built (refused n) r.after ]

unfoldable pub build_on : Limits → List ℕ → Store → List ℤ → List Line → Built
build_on m levels σ edges [] = built (value edges) σ
build_on m levels σ edges (l ∷ ls) = onwards (add_line m levels σ edges l) (λ a τ. build_on m levels τ (edges ++ (a ∷ [])) ls)

unfoldable pub build : Limits → List ℕ → Store → List Line → Built
build m levels σ ls = build_on m levels σ [] ls

-- '2 the level list isn't one level per support variable, strictly ascending, below the store's level count': each level is one of the
-- store's
abbrev pub LevelsOf : Store → List ℕ → Type 0
LevelsOf σ levels = (p : ℕ) → p < length levels → get_or levels p 0 < σ.levels

-- what a line's checks leave: a support position, and children below the line that lie deeper than it
pub record ChildBelow (levels seats : List ℕ) (n l : ℕ) (c : ℤ) : Type 0 where
  pub some : 1 ≤ nat_abs c
  pub below : nat_abs c < n
  pub deep : deeper levels seats l (nat_abs c) ≡ true

pub record Inner (levels seats : List ℕ) (n p : ℕ) (t e : ℤ) : Type 0 where
  pub position : p < length levels
  pub then : ChildBelow levels seats n (get_or levels p 0) t
  pub els : ChildBelow levels seats n (get_or levels p 0) e

abbrev pub Judged : List ℕ → List ℕ → ℕ → Line → Type 0
Judged levels seats n terminal = Unit
Judged levels seats n (inner p t e) = Inner levels seats n p t e

-- each line is so, by the seats of the lines before it
pub data AllJudged (levels : List ℕ) : List ℕ → List Line → Type 0 where
  none : {seats : List ℕ} → AllJudged levels seats []
  one : {seats : List ℕ} {l : Line} {ls : List Line} → Judged levels seats (length seats + 1) l → AllJudged levels (seats ++ (seat_of_line l ∷ [])) ls
      → AllJudged levels seats (l ∷ ls)

-- the count that making all lines with no limit would reach
unfoldable pub count_needed : List ℕ → Store → List Line → ℕ
count_needed levels σ ls =
    (build (with_room (length ls) σ) levels (roomier (length ls) σ) ls).after.count
