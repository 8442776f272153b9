-- Node lines by the tables that an export fills, and what writing them leans on.
use Rattle.std.specs.Prelude.{ℕ, ◌+◌, ◌-◌, ◌≤◌, ◌<◌, ◌≡◌, Bool, cond, List, [], map, eqb, length, get_or, ℤ, nat_abs}
use Rattle.codes.specs.Limits.{node_limit}
use Rattle.edges.specs.Edge.{minus}
use Rattle.read_edges.specs.Edges.{signed}
use Rattle.store.specs.Store.{Store, slots, level_at, then_at, else_at}
use Rattle.store.specs.declared.StoreRef.{StoreRef}
use Rattle.node_lines.specs.Line.{Line, terminal, inner}
use Rattle.node_writers.specs.Encoded.{smaller, text_bytes, inner_bytes, line_bytes}

-- a store by its slots alone: what the lines of nodes look at
abbrev pub slots_of : StoreRef → Store
slots_of s = slots s.level.now s.then.now s.els.now

-- the table's number of an edge's node, with the edge's sign
unfoldable pub line_number_of : List ℕ → ℤ → ℤ
line_number_of numbers e = signed (minus e) (get_or numbers (nat_abs e - 1) 0)

-- a node of a number that an edge can have
pub record Numbered (numbers : List ℕ) (n : ℕ) : Type 0 where
  pub some : 1 ≤ n
  pub there : n ≤ length numbers
  pub small : get_or numbers (n - 1) 0 ≤ node_limit

unfoldable pub line_by : Store → List ℕ → List ℕ → ℕ → Line
line_by σ numbers seats n =
    cond (eqb n 1) terminal (inner (get_or seats (level_at σ n) 0 - 1) (line_number_of numbers (then_at σ n)) (line_number_of numbers (else_at σ n)))

-- the lines by a table of each node's number, and one of each level's seat in the support
unfoldable pub lines_by : Store → List ℕ → List ℕ → List ℕ → List Line
lines_by σ numbers seats nodes = map (line_by σ numbers seats) nodes

-- the seat of a node's line: that of its level, and 0 of the terminal
abbrev pub seat_by : Store → List ℕ → ℕ → ℕ
seat_by σ seats n = cond (eqb n 1) 0 (get_or seats (level_at σ n) 0)

-- the bytes of an inner node m as line n: in binary its variable may count down from the smaller seat of its children
unfoldable pub inner_by : Bool → Store → List ℕ → List ℕ → ℕ → ℕ → List ℕ
inner_by ascii σ numbers seats n m =
    let p = get_or seats (level_at σ m) 0 - 1 in
    let t = line_number_of numbers (then_at σ m) in
    let e = line_number_of numbers (else_at σ m) in
    let seat = smaller (seat_by σ seats (nat_abs (then_at σ m))) (seat_by σ seats (nat_abs (else_at σ m))) in
    cond ascii (text_bytes n (inner p t e)) (inner_bytes n p t e seat)

-- the bytes of a node m as line n; a terminal's line asks for no seats
unfoldable pub node_line_by : Bool → Store → List ℕ → List ℕ → ℕ → ℕ → List ℕ
node_line_by ascii σ numbers seats n m = cond (eqb m 1) (line_bytes ascii [] n terminal) (inner_by ascii σ numbers seats n m)

-- a node that is the terminal or whose level has a seat
pub record Seated (level seats : List ℕ) (n : ℕ) : Type 0 where
  pub some : 1 ≤ n
  pub there : n ≤ length level
  pub seated : 2 ≤ n → get_or level (n - 1) 0 < length seats

-- a child of the node of line n: it has an earlier line
pub record ChildLine (σ : Store) (numbers seats : List ℕ) (n c : ℕ) : Type 0 where
  pub some : 1 ≤ c
  pub there : c ≤ length numbers
  pub level_there : c ≤ length σ.level
  pub lined : 1 ≤ get_or numbers (c - 1) 0
  pub earlier : get_or numbers (c - 1) 0 < n
  pub seated : 2 ≤ c → level_at σ c < length seats

-- an inner node m of line n
pub record Inner (σ : Store) (numbers seats : List ℕ) (n m : ℕ) : Type 0 where
  pub level_there : m ≤ length σ.level
  pub then_there : m ≤ length σ.then
  pub els_there : m ≤ length σ.els
  pub seated : level_at σ m < length seats
  pub supported : 1 ≤ get_or seats (level_at σ m) 0
  pub then : ChildLine σ numbers seats n (nat_abs (then_at σ m))
  pub els : ChildLine σ numbers seats n (nat_abs (else_at σ m))

-- what writing lines leans on
pub record Lined (σ : Store) (nodes numbers seats : List ℕ) : Type 0 where
  pub few : length nodes ≤ node_limit
  pub some : (i : ℕ) → i < length nodes → 1 ≤ get_or nodes i 0
  pub inner : (i : ℕ) → i < length nodes → 2 ≤ get_or nodes i 0 → Inner σ numbers seats (i + 1) (get_or nodes i 0)
  -- a number leads back to its node
  pub back : (c : ℕ) → 1 ≤ c → c ≤ length numbers → 1 ≤ get_or numbers (c - 1) 0 → get_or nodes (get_or numbers (c - 1) 0 - 1) 0 ≡ c
