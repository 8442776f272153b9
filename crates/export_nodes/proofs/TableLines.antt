-- The lines of nodes by the tables: the bytes of each node are those of its line, whose children have their seats in the list of all lines.
use mathlib.Core.Path.{◌≡◌, ap, ◌∙◌}
use mathlib.Core.Bool.{Bool, true, false}
use mathlib.Core.List.{List, map}
use Prim.Native.Nat.{ℕ, ◌+◌, ◌-◌, ◌≤◌, ◌<◌}
use native.Mathlib.Omega.{arith}
use native.Mathlib.Decide.{ℕ_discrete}
use lib.ListN.{length, get_or, length-map}
use lib.IntN.{ℤ, nat_abs}
use borrow.Author.Tests.{ne_eqb}
use Rattle.store.specs.Store.{Store, then_at, else_at}
use Rattle.seats.proofs.MappedEntries.{mapped_at}
use Rattle.node_lines.specs.Line.{seat_of_line}
use Rattle.node_writers.specs.Encoded.{bin_bytes, line_bytes}
use Rattle.export_nodes.specs.Tables.{line_number_of, line_by, lines_by, seat_by, inner_by, node_line_by, ChildLine, Lined}
use Rattle.export_nodes.proofs.EdgeNumbers.{number-abs}

-- the seats of all lines
abbrev pub line_seats : Store → List ℕ → List ℕ → List ℕ → List ℕ
line_seats σ numbers seats nodes = map seat_of_line (lines_by σ numbers seats nodes)

module _ {σ : Store} {nodes numbers seats : List ℕ} (L : Lined σ nodes numbers seats) where
  -- a line has the seat of its node
  own-seat : (i : ℕ) → i < length nodes → seat_of_line (line_by σ numbers seats (get_or nodes i 0)) ≡ seat_by σ seats (get_or nodes i 0)
  unfolding line_by
  own-seat i h = go (ℕ_discrete (get_or nodes i 0) 1)
    where
      go : Dec (get_or nodes i 0 ≡ 1) → seat_of_line (line_by σ numbers seats (get_or nodes i 0)) ≡ seat_by σ seats (get_or nodes i 0)
      go (yes e) = rw e
      go (no f) = rw (ne_eqb (get_or nodes i 0) 1 f) (omega (arith, (L.inner i h (omega (arith, f, L.some i h))).supported))

  seat-at : (i : ℕ) → i < length nodes → get_or (line_seats σ numbers seats nodes) i 0 ≡ seat_by σ seats (get_or nodes i 0)
  unfolding lines_by
  seat-at i h =
      mapped_at seat_of_line (map (line_by σ numbers seats) nodes) i (line_by σ numbers seats 0) 0 (rw (length-map nodes (line_by σ numbers seats)) h)
      ∙ ap seat_of_line (mapped_at (line_by σ numbers seats) nodes i 0 (line_by σ numbers seats 0) h) ∙ own-seat i h

  -- a child is found by the number of its line
  child-seat : (n : ℕ) → n ≤ length nodes → (e : ℤ) → ChildLine σ numbers seats n (nat_abs e)
      → get_or (line_seats σ numbers seats nodes) (nat_abs (line_number_of numbers e) - 1) 0 ≡ seat_by σ seats (nat_abs e)
  child-seat n h e C =
      let k = get_or numbers (nat_abs e - 1) 0 - 1 in
      rw (number-abs numbers e) (seat-at k (omega (arith, C.lined, C.earlier)) ∙ rw (L.back (nat_abs e) C.some C.there C.lined))

  -- each node is written as its line
  pub node-line : (ascii : Bool) (i : ℕ) → i < length nodes
      → node_line_by ascii σ numbers seats (i + 1) (get_or nodes i 0) ≡ line_bytes ascii (line_seats σ numbers seats nodes) (i + 1) (line_by σ numbers seats (get_or nodes i 0))
  unfolding node_line_by inner_by line_by bin_bytes
  node-line ascii i h = go (ℕ_discrete (get_or nodes i 0) 1) ascii
    where
      go : Dec (get_or nodes i 0 ≡ 1) → (ascii : Bool)
          → node_line_by ascii σ numbers seats (i + 1) (get_or nodes i 0) ≡ line_bytes ascii (line_seats σ numbers seats nodes) (i + 1) (line_by σ numbers seats (get_or nodes i 0))
      go (yes e) true = rw e
      go (yes e) false = rw e
      go (no f) true = rw (ne_eqb (get_or nodes i 0) 1 f)
      go (no f) false =
          let m = get_or nodes i 0 in
          let I = L.inner i h (omega (arith, f, L.some i h)) in
          rw (ne_eqb m 1 f, child-seat (i + 1) (omega arith) (then_at σ m) I.then, child-seat (i + 1) (omega arith) (else_at σ m) I.els)
