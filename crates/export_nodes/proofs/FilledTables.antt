-- Tables that hold the number of each node and the seat of each level: by them the lines are those of the nodes.
use mathlib.Core.Path.{◌≡◌, refl, ap, ◌∙◌}
use mathlib.Core.List.{List, [], ◌∷◌, map}
use Prim.Native.Nat.{ℕ, suc, ◌-◌, ◌≤◌, ◌<◌}
use native.Mathlib.Omega.{arith}
use native.Mathlib.Decide.{ℕ_discrete}
use lib.ListN.{length, get_or}
use lib.IntN.{ℤ, nat_abs}
use borrow.Author.Tests.{ne_eqb}
use Rattle.edges.specs.Edge.{minus}
use Rattle.read_edges.specs.Edges.{signed}
use Rattle.store.specs.Store.{Store, level_at, then_at, else_at}
use Rattle.seats.specs.Seats.{seat_of, Seats}
use Rattle.numbering.specs.Numbering.{Numbers}
use Rattle.numbering.specs.Support.{support_of}
use Rattle.export_nodes.specs.Lines.{renumbered, line_of_node, lines_for}
use Rattle.export_nodes.specs.Tables.{line_number_of, line_by, lines_by}

-- lists mapped alike
map_same : {A B : Type 0} (f g : A → B) (d : A) (l : List A) → ((i : ℕ) → i < length l → f (get_or l i d) ≡ g (get_or l i d)) → map f l ≡ map g l
map_same f g d [] h = refl
map_same f g d (x ∷ l) h = rw (h 0 (omega arith), map_same f g d l (λ i k. h (suc i) (omega arith)))

-- the number of a node in the table is its seat
pub number-seat : (ns numbers : List ℕ) (c : ℕ) → Numbers ns numbers → 1 ≤ c → c ≤ length numbers → get_or numbers (c - 1) 0 ≡ seat_of c ns
number-seat ns numbers c N some there = N (c - 1) (omega arith) ∙ ap (λ n. seat_of n ns) (omega arith)

-- an edge by the table is the edge to its node's line
pub number-line : (ns numbers : List ℕ) (e : ℤ) → Numbers ns numbers → 1 ≤ nat_abs e → nat_abs e ≤ length numbers → line_number_of numbers e ≡ renumbered ns e
unfolding line_number_of renumbered
number-line ns numbers e N some there = ap (signed (minus e)) (number-seat ns numbers (nat_abs e) N some there)

-- an inner node whose level and children have entries in the tables
pub record Held (σ : Store) (numbers seats : List ℕ) (n : ℕ) : Type 0 where
  pub level : level_at σ n < length seats
  pub then_some : 1 ≤ nat_abs (then_at σ n)
  pub then_there : nat_abs (then_at σ n) ≤ length numbers
  pub else_some : 1 ≤ nat_abs (else_at σ n)
  pub else_there : nat_abs (else_at σ n) ≤ length numbers

module _ (σ : Store) (ns numbers seats : List ℕ) (N : Numbers ns numbers) (S : Seats (support_of σ ns) seats) where
  line-by-tables : (n : ℕ) → ((n ≡ 1 → ⊥) → Held σ numbers seats n) → line_by σ numbers seats n ≡ line_of_node σ (support_of σ ns) ns n
  unfolding line_by line_of_node
  line-by-tables n held = go (ℕ_discrete n 1)
    where
      go : Dec (n ≡ 1) → line_by σ numbers seats n ≡ line_of_node σ (support_of σ ns) ns n
      go (yes e) = rw e
      go (no f) =
          let h = held f in
          rw (
            ne_eqb n 1 f,
            S (level_at σ n) h.level,
            number-line ns numbers (then_at σ n) N h.then_some h.then_there,
            number-line ns numbers (else_at σ n) N h.else_some h.else_there,
          )

  -- The lines by the tables are those of the nodes.
  pub lines-by-tables : ((i : ℕ) → i < length ns → (get_or ns i 0 ≡ 1 → ⊥) → Held σ numbers seats (get_or ns i 0)) → lines_by σ numbers seats ns ≡ lines_for σ ns
  unfolding lines_by lines_for
  lines-by-tables held = map_same (line_by σ numbers seats) (line_of_node σ (support_of σ ns) ns) 0 ns (λ i h. line-by-tables (get_or ns i 0) (held i h))
