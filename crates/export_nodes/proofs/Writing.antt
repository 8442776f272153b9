-- While lines are written: what is left to write gives all that is to be written.
use mathlib.Core.Path.{◌≡◌, refl, sym, ap, ◌∙◌}
use mathlib.Core.Bool.{Bool}
use mathlib.Core.List.{List, [], ◌++◌}
use Prim.Native.Nat.{ℕ, ◌+◌, ◌≤◌, ◌<◌}
use native.Mathlib.Omega.{arith}
use native.Mathlib.Numerals.{add-one}
use lib.ListN.{length, get_or, drop, length-append, drop_of_length-le}
use lib.Seq.{sets, drop-cons}
use Rattle.store.specs.Store.{Store}
use Rattle.writers.specs.Written.{Wrote}
use Rattle.writers.proofs.Sets.{sets-append}
use Rattle.node_writers.specs.Encoded.{line_bytes, encode_from, node_bytes}
use Rattle.export_nodes.specs.Tables.{lines_by, node_line_by, Lined}
use Rattle.export_nodes.proofs.TableLines.{line_seats, node-line}

module _ (ascii : Bool) (σ : Store) (nodes numbers seats : List ℕ) where
  -- the lines of all nodes but the first i
  abbrev pub left : ℕ → List ℕ
  left i = encode_from (line_bytes ascii (line_seats σ numbers seats nodes)) (i + 1) (lines_by σ numbers seats (drop i nodes))

  -- those after i nodes are written
  pub record Writing (old : List ℕ) (at : ℕ) (out : List ℕ) (next i : ℕ) : Type 0 where
    pub within : i ≤ length nodes
    pub long : length out ≡ length old
    pub ends : next + length (left i) ≡ at + length (node_bytes ascii (lines_by σ numbers seats nodes))
    pub stored : sets out next (left i) ≡ sets old at (node_bytes ascii (lines_by σ numbers seats nodes))

  pub writing_start : (old : List ℕ) (at : ℕ) → Writing old at old at 0
  unfolding node_bytes
  writing_start old at = record { within = omega arith; long = refl; ends = refl; stored = refl }

  -- after the last node nothing is left
  left-none : (i : ℕ) → length nodes ≤ i → left i ≡ []
  unfolding encode_from lines_by
  left-none i h = rw (drop_of_length-le nodes h)

  pub writing-end : {old : List ℕ} {at : ℕ} {out : List ℕ} {next i : ℕ} → Writing old at out next i → length nodes ≤ i
      → Wrote old at (node_bytes ascii (lines_by σ numbers seats nodes)) next out
  writing-end {old} {at} {out} {next} {i} w h =
      record { next = omega (arith, w.ends, ap length (left-none i h)); bytes = ap (sets out next) (sym (left-none i h)) ∙ w.stored }

-- The line of the next node is the first of those that are left.
module _ (ascii : Bool) {σ : Store} {nodes numbers seats : List ℕ} (L : Lined σ nodes numbers seats) (i : ℕ) (h : i < length nodes) where
  abbrev line : List ℕ
  line = node_line_by ascii σ numbers seats (i + 1) (get_or nodes i 0)

  left-more : left ascii σ nodes numbers seats i ≡ line ++ left ascii σ nodes numbers seats (i + 1)
  unfolding encode_from lines_by
  left-more = rw (node-line L ascii i h, drop-cons nodes i 0 h, add-one i)

  length_more : length (left ascii σ nodes numbers seats i) ≡ length line + length (left ascii σ nodes numbers seats (i + 1))
  length_more = rw left-more (length-append line (left ascii σ nodes numbers seats (i + 1)))

  module _ {old : List ℕ} {at : ℕ} {out : List ℕ} {next : ℕ} (w : Writing ascii σ nodes numbers seats old at out next i) where
    pub writing-room : at + length (node_bytes ascii (lines_by σ numbers seats nodes)) ≤ length old → next + length line ≤ length out
    writing-room r = omega (arith, w.ends, w.long, length_more)

    pub writing_more : {out' : List ℕ} {next' : ℕ} → Wrote out next line next' out' → length out' ≡ length out
        → Writing ascii σ nodes numbers seats old at out' next' (i + 1)
    writing_more p long =
        record {
          within = omega arith;
          long = long ∙ w.long;
          ends = omega (arith, w.ends, p.next, length_more);
          stored = rw (p.next, p.bytes) (sym (sets-append out next line _) ∙ ap (sets out next) (sym left-more) ∙ w.stored);
        }
