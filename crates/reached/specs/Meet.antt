-- The walk as the code makes it: a node that was met is passed over, with all under it. It meets what `Walk` says, in that order. And what its
-- functions ask of each other.
use Rattle.std.specs.Prelude.{ℕ, zero, suc, ◌+◌, ◌-◌, ◌≤◌, ◌<◌, ◌≡◌, Bool, true, false, cond, not, List, [], ◌∷◌, ◌++◌, Option, Some, None, eqb, length, get_or, take, ℤ, pos, nat_abs}
use Rattle.codes.specs.Limits.{node_limit}
use Rattle.codes.specs.Lent.{laid}
use Rattle.store.specs.Store.{Store, store, then_at, else_at}
use Rattle.seats.specs.Seats.{seat_of}
use Rattle.seats.specs.Ordered.{distinct}

-- does a number stand in a list?
abbrev pub is_in : ℕ → List ℕ → Bool
is_in n ns = not (eqb (seat_of n ns) 0)

-- The nodes met after node n, where those of a list were met before, in the order of their first meeting. Children have lower numbers, so n
-- steps down are enough; the first number counts them, so that this ends whatever the slots hold.
unfoldable pub meet_by : ℕ → Store → List ℕ → ℕ → List ℕ
meet_by zero σ met n = met
meet_by (suc f) σ met n =
    elim (is_in n met) [
      | true ↦ met
      | false ↦ elim (eqb n 1) [
        | true ↦ met ++ (n ∷ [])
        | false ↦ meet_by f σ (meet_by f σ (met ++ (n ∷ [])) (nat_abs (then_at σ n))) (nat_abs (else_at σ n))
      ]
    ]

unfoldable pub meet : Store → List ℕ → ℕ → List ℕ
meet σ met n = meet_by n σ met n

-- a store by the lists that a walk looks at
abbrev pub linked : Store → Store
linked σ = store 0 0 [] σ.then σ.els [] []

-- a list that marks the numbers of another: 0 is no mark
abbrev pub Marks : List ℕ → List ℕ → Type 0
Marks met marks = (i : ℕ) → i < length marks → is_in (i + 1) met ≡ not (eqb (get_or marks i 0) 0)

-- the nodes that a node's edges lead to, then before else; the terminal has no edges
unfoldable pub children_of : Store → ℕ → List ℕ
children_of σ n = cond (eqb n 1) [] (nat_abs (then_at σ n) ∷ nat_abs (else_at σ n) ∷ [])

-- the first number of a list that has no mark
unfoldable pub first_unmarked : List ℕ → List ℕ → Option ℕ
first_unmarked marks [] = None
first_unmarked marks (n ∷ ns) = cond (eqb (get_or marks (n - 1) 0) 0) (Some n) (first_unmarked marks ns)

-- what a walk leans on: children that are lower numbers, never 0; roots among the nodes; and room for each node
pub record Descends (σ : Store) (n : ℕ) : Type 0 where
  pub then_some : 1 ≤ nat_abs (then_at σ n)
  pub then_low : nat_abs (then_at σ n) < n
  pub else_some : 1 ≤ nat_abs (else_at σ n)
  pub else_low : nat_abs (else_at σ n) < n

-- what a look at the children of node n leans on
pub record Looks (σ : Store) (marks n : ℕ) : Type 0 where
  pub some : 1 ≤ n
  pub then_there : n ≤ length σ.then
  pub else_there : n ≤ length σ.els
  pub mark_there : n ≤ marks
  pub descends : 2 ≤ n → Descends σ n

pub record Below (σ : Store) (met marks : ℕ) : Type 0 where
  pub count : ℕ
  pub descends : (n : ℕ) → 2 ≤ n → n ≤ count → Descends σ n
  pub then_long : count ≤ length σ.then
  pub els_long : count ≤ length σ.els
  pub met_long : count ≤ met
  pub marks_long : count ≤ marks
  pub small : count ≤ node_limit

pub record Walks (σ : Store) (roots : List ℤ) (met marks : ℕ) : Type 0 where
  pub below : Below σ met marks
  pub roots_there : (i : ℕ) → i < length roots → (1 ≤ nat_abs (get_or roots i (pos 0))) × (nat_abs (get_or roots i (pos 0)) ≤ below.count)

-- the nodes met so far: each is one of the nodes, stands once, and is marked
pub record Seen (count : ℕ) (seen marks : List ℕ) : Type 0 where
  pub known : (x : ℕ) → is_in x seen ≡ true → (1 ≤ x) × (x ≤ count)
  pub once : distinct seen ≡ true
  pub marked : Marks seen marks

-- what a walk on from node n leans on, where the first entries of a lent list are the nodes met so far
pub record Meets (σ : Store) (met marks : List ℕ) (at n : ℕ) : Type 0 where
  pub below : Below σ (length met) (length marks)
  pub some : 1 ≤ n
  pub there : n ≤ below.count
  pub within : at ≤ length met
  pub seen : Seen below.count (take at met) marks

-- nodes that lie over the front of a lent list, and are marked
pub record ListedNodes (nodes old : List ℕ) (r : ℕ) (met marks : List ℕ) : Type 0 where
  pub many : r ≡ length nodes
  pub lies : met ≡ laid nodes old
  pub marked : Marks nodes marks
