-- The lines of an export: they can be written by the tables, and are 32 bytes long at most.
use mathlib.Core.Path.{◌≡◌, refl}
use mathlib.Core.Bool.{Bool}
use mathlib.Core.List.{List}
use Prim.Native.Nat.{ℕ, ◌+◌, ◌*◌, ◌^◌, ◌≤◌, ◌<◌}
use native.Mathlib.Omega.{arith}
use lib.ListN.{length, get_or, length-map}
use lib.IntN.{ℤ, nat_abs}
use borrow.Author.Tests.{ne_eqb}
use Rattle.codes.specs.Limits.{Limits, limits, RoomForExports, var_limit}
use Rattle.store.specs.Store.{Store, level_at, then_at, else_at, slots}
use Rattle.seats.specs.Seats.{Seats}
use Rattle.seats.proofs.Seating.{seat-most}
use Rattle.node_lines.specs.Line.{terminal}
use Rattle.numbering.specs.Numbering.{numbering, Numbers}
use Rattle.numbering.specs.Support.{support_of}
use Rattle.export_nodes.specs.Lines.{renumbered, line_of_node, lines_for}
use Rattle.node_writers.specs.Encoded.{node_bytes}
use Rattle.export_nodes.specs.Tables.{line_by, lines_by, ChildLine, Lined}
use Rattle.export_nodes.specs.Exported.{Exported}
use Rattle.seats.proofs.MappedEntries.{mapped_at}
use Rattle.export_nodes.proofs.Renumbered.{seat-back, Numbered, renumbered-abs, NodeAt, terminal_at, inner_at, entry-node, lines-few, inner-at, node_at}
use Rattle.export_nodes.proofs.Support.{support-few, level-seated, position-low}
use Rattle.export_nodes.proofs.FilledTables.{number-seat, lines-by-tables}
use Rattle.node_writers.proofs.LineLengths.{Small, nodes-short}

-- tables of the numbers of an export's nodes and of the seats of its levels
pub record Filled (σ : Store) (ns numbers seats : List ℕ) : Type 0 where
  pub numbered : Numbers ns numbers
  pub seated : Seats (support_of σ ns) seats
  pub numbers_long : σ.count ≤ length numbers
  pub seats_long : var_limit ≤ length seats

module _ {σ : Store} {roots : List ℤ} {numbers seats : List ℕ} (E : Exported limits σ roots) (F : Filled σ (numbering σ roots) numbers seats) where
  abbrev ns : List ℕ
  ns = numbering σ roots

  -- the level of a node has an entry in the table of seats
  level-held : (n : ℕ) → 2 ≤ n → n ≤ σ.count → level_at σ n < length seats
  level-held n h k = omega (arith, (E.rules.nodes.fits n h k).level_low, E.rules.sizes.levels_limit, F.seats_long)

  -- a child of the node of line i + 1
  child-lined : (i : ℕ) (c : ℤ) → Numbered ns i c → 1 ≤ nat_abs c → nat_abs c ≤ σ.count → ChildLine (slots σ.level σ.then σ.els) numbers seats (i + 1) (nat_abs c)
  child-lined i c M some there =
      let s = number-seat ns numbers (nat_abs c) F.numbered some (omega (arith, F.numbers_long)) in
      record {
        some = some;
        there = omega (arith, F.numbers_long);
        level_there = omega (arith, E.rules.sizes.count_slots);
        lined = omega (arith, M.some);
        earlier = omega (arith, M.early);
        seated = λ h. level-held (nat_abs c) h there;
      }

  -- Its lines can be written by the tables ..
  pub export-lined : Lined (slots σ.level σ.then σ.els) ns numbers seats
  export-lined =
      let Z = E.rules.sizes in
      record {
        few = omega (arith, lines-few E, Z.count_limit);
        some = λ i h. (entry-node E i h).some;
        inner = λ i h two.
            let n = get_or ns i 0 in
            let I = inner-at E i n h refl two in
            let seat = F.seated (level_at σ n) (level-held n two I.there) in
            record {
              level_there = omega (arith, I.there, Z.count_slots);
              then_there = omega (arith, I.there, Z.count_slots, Z.then_long);
              els_there = omega (arith, I.there, Z.count_slots, Z.els_long);
              seated = level-held n two I.there;
              supported = omega (arith, level-seated I);
              then = child-lined i (then_at σ n) I.then I.fits.then_some (omega (arith, I.fits.then_low, I.there));
              els = child-lined i (else_at σ n) I.els I.fits.else_some (omega (arith, I.fits.else_low, I.there));
            };
        back = λ c some there lined.
            let s = number-seat ns numbers c F.numbered some there in
            rw s (seat-back c ns (rw s at lined));
      }

  -- .. and are those of its nodes.
  pub export-lines : lines_by (slots σ.level σ.then σ.els) numbers seats ns ≡ lines_for σ ns
  unfolding line_by lines_by
  export-lines =
      lines-by-tables σ ns numbers seats F.numbered F.seated
      (λ i h f.
      let I = export-lined.inner i h (omega (arith, f, (entry-node E i h).some)) in
      record {
        level = I.seated;
        then_some = I.then.some;
        then_there = I.then.there;
        else_some = I.els.some;
        else_there = I.els.there;
      })

module _ {m : Limits} (W : RoomForExports m) {σ : Store} {roots : List ℤ} (E : Exported m σ roots) where
  abbrev nodes : List ℕ
  nodes = numbering σ roots

  -- the number of a line has seven digits at most
  edge-small : (c : ℤ) → nat_abs (renumbered nodes c) < 10 ^ 7
  edge-small c = omega (arith, renumbered-abs nodes c, seat-most (nat_abs c) nodes, lines-few E, E.rules.sizes.count_limit, W.few_digits)

  line_small : {i n : ℕ} → NodeAt σ nodes i n → Small (line_of_node σ (support_of σ nodes) nodes n)
  unfolding line_of_node
  line_small terminal_at = tt
  line_small {i} {n} (inner_at I) =
      rw (ne_eqb n 1 (λ z. omega (arith, I.node))) (
        omega (arith, position-low I, support-few σ nodes, E.rules.sizes.levels_limit, W.few_levels),
        edge-small (then_at σ n),
        edge-small (else_at σ n),
      )

  -- The lines of an export are within the limits ..
  pub lines-small : (i : ℕ) → i < length (lines_for σ nodes) → Small (get_or (lines_for σ nodes) i terminal)
  unfolding lines_for
  lines-small i h =
      let k : i < length nodes = rw (length-map nodes (line_of_node σ (support_of σ nodes) nodes)) at h in
      rw (mapped_at (line_of_node σ (support_of σ nodes) nodes) nodes i 0 terminal k) (line_small (node_at E i (get_or nodes i 0) k refl))

  -- .. so they are short.
  pub lines-short : (ascii : Bool) → length (node_bytes ascii (lines_for σ nodes)) ≤ 32 * length nodes
  unfolding lines_for
  lines-short ascii =
      let long = length-map nodes (line_of_node σ (support_of σ nodes) nodes) in
      omega (arith, nodes-short ascii (lines_for σ nodes) (omega (arith, lines-few E, E.rules.sizes.count_limit, W.few_digits)) lines-small)
