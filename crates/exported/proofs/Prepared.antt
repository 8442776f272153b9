-- The lines of an accepted export and the tables that it fills: each part of the file can be written by them.
use mathlib.Core.Path.{◌≡◌, refl, ap, ◌∙◌}
use mathlib.Core.Bool.{Bool}
use mathlib.Core.List.{List, [], ◌∷◌, map}
use Prim.Native.Nat.{ℕ, suc, ◌≤◌, ◌<◌}
use native.Mathlib.Omega.{arith}
use lib.ListN.{length, get_or, take, replicate, length-replicate}
use lib.IntN.{ℤ, pos, nat_abs}
use Rattle.codes.specs.Limits.{limits, var_limit}
use Rattle.codes.specs.Lent.{laid}
use Rattle.codes.specs.declared.DDDMPVersion.{DDDMPVersion}
use Rattle.codes.proofs.Lent.{length-laid}
use Rattle.store.specs.Store.{Store, slots}
use Rattle.store.specs.Growth.{EdgeOf}
use Rattle.seats.specs.Seats.{Seats}
use Rattle.seats.proofs.Seating.{seat-most}
use Rattle.reached.specs.Reached.{bare}
use Rattle.numbering.specs.Numbering.{numbering, Numbers}
use Rattle.numbering.specs.Support.{support_of, Placed}
use Rattle.reached.proofs.Laid.{take-laid}
use Rattle.export_support.proofs.SupportLevels.{support-fits}
use Rattle.numbering.proofs.Numbered.{numbering-bare}
use Rattle.export_nodes.specs.Exported.{Exported}
use Rattle.export_nodes.specs.Lines.{renumbered, lines_for}
use Rattle.export_nodes.specs.Tables.{line_number_of, lines_by, Lined}
use Rattle.export_nodes.proofs.Renumbered.{entry-node, lines-few}
use Rattle.export_nodes.proofs.FilledTables.{number-seat, number-line}
use Rattle.export_nodes.proofs.ExportLines.{Filled, export-lined, export-lines}
use Rattle.heading.specs.Tables.{Lent, seated_levels, heading_by, Ordered, Rooted}
use Rattle.heading.proofs.Support.{seated-support}
use Rattle.exported.specs.Settings.{settings}
use Rattle.exported.specs.Export.{heading_of}
use Rattle.exported.proofs.Accepted.{Accepted, exported}

module _ {σ : Store} {roots : List ℤ} {order : List ℕ} {p : Lent} {room marks out : ℕ} (A : Accepted limits σ roots order p room marks out) where
  abbrev ns : List ℕ
  ns = numbering σ roots

  E : Exported limits σ roots
  E = exported A

  -- what the lines of variables lean on
  pub ordered : (vars seats : List ℕ) → length order ≤ length vars → Seats order vars → var_limit ≤ length seats → Ordered order vars seats
  ordered vars seats long S more =
      let few = A.rules.sizes.levels_limit in
      record {
        is_an_order = A.is_an_order;
        few = omega (arith, A.order_long);
        vars_long = long;
        vars_there = S;
        seats_long = omega (arith, A.order_long);
      }

  -- tables that hold the number of each node and the seat of each level
  module _ {numbers seats : List ℕ} (F : Filled σ ns numbers seats) where
    root-there : (i : ℕ) → i < length roots → nat_abs (get_or roots i (pos 0)) ≤ length numbers
    root-there i h = omega (arith, (A.roots_there i h).there, F.numbers_long)

    -- the roots can be written by them
    pub rooted : Rooted roots numbers
    rooted = record {
      few = A.roots_few;
      numbered = λ i h.
          let some = (A.roots_there i h).some in
          let m = nat_abs (get_or roots i (pos 0)) in
          record {
            some = some;
            there = root-there i h;
            small =
                let most = lines-few E in
                omega (arith, number-seat ns numbers m F.numbered some (root-there i h), seat-most m ns, A.rules.sizes.count_limit);
          };
    }

    roots-same : (rs : List ℤ) → ((i : ℕ) → i < length rs → EdgeOf σ (get_or rs i (pos 0))) → map (line_number_of numbers) rs ≡ map (renumbered ns) rs
    roots-same [] h = refl
    roots-same (r ∷ rs) h =
        let E = h 0 (omega arith) in
        rw (number-line ns numbers r F.numbered E.some (omega (arith, E.there, F.numbers_long)), roots-same rs (λ i k. h (suc i) (omega arith)))

    -- the levels that have a seat are the support
    seated-same : seated_levels seats ≡ support_of σ ns
    seated-same =
        seated-support σ.levels (support_of σ ns) seats F.seated (support-fits σ ns) (omega (arith, A.rules.sizes.levels_limit, F.seats_long))

    -- the header by them is that of the nodes
    pub heading-same : (version : DDDMPVersion) (ascii : Bool) {n : ℕ} → n ≡ length ns
        → heading_by version ascii p n order seats roots numbers ≡ heading_of (settings version ascii p.dd) σ roots order p
    unfolding heading_of
    heading-same version ascii e = rw (e, seated-same, roots-same roots A.roots_there)

  -- the list that holds the nodes of the n lines, as numbering leaves it, which looks at no chain
  module _ {n : ℕ} {nodes : List ℕ} (e : n ≡ length (numbering (bare σ) roots)) (l : nodes ≡ laid (numbering (bare σ) roots) (replicate room 0)) where
    -- they are counted ..
    pub nodes-many : n ≡ length ns
    nodes-many = e ∙ ap length (numbering-bare σ roots)

    -- .. and laid over it
    nodes-laid : nodes ≡ laid ns (replicate room 0)
    nodes-laid = l ∙ ap (λ t. laid t (replicate room 0)) (numbering-bare σ roots)

    nodes-long : length nodes ≡ room
    nodes-long = rw nodes-laid (length-laid ns (replicate room 0) ∙ length-replicate room 0)

    -- they are its front
    pub nodes-room : n ≤ length nodes
    nodes-room = omega (arith, nodes-many, lines-few E, A.slots_long, nodes-long)

    nodes-front : take n nodes ≡ ns
    nodes-front = rw (nodes-many, nodes-laid) (take-laid ns (replicate room 0) (omega (arith, lines-few E, A.slots_long, length-replicate {A = ℕ} room 0)))

    -- each has its place
    pub nodes-placed : Placed σ.levels σ.level (take n nodes)
    nodes-placed = rw nodes-front (λ i h.
        let N = entry-node E i h in
        record {
          some = N.some;
          there = omega (arith, N.there, A.rules.sizes.count_slots);
          low = λ k. (A.rules.nodes.fits (get_or ns i 0) k N.there).level_low;
        })

    -- the tables are filled
    pub filled : {numbers seats : List ℕ} → Numbers (numbering (bare σ) roots) numbers → length numbers ≡ marks → Seats (support_of σ (take n nodes)) seats
        → var_limit ≤ length seats → Filled σ ns numbers seats
    filled N long S more = record { numbered = rw (numbering-bare σ roots) at N; seated = rw nodes-front at S; numbers_long = omega (arith, A.numbers_long); seats_long = more }

    -- the lines can be written by them, and are those of the nodes
    pub lined : {numbers seats : List ℕ} → Filled σ ns numbers seats → Lined (slots σ.level σ.then σ.els) (take n nodes) numbers seats
    lined F = rw nodes-front (export-lined E F)

    pub lines_same : (numbers seats : List ℕ) → Filled σ ns numbers seats
        → lines_by (slots σ.level σ.then σ.els) numbers seats (take n nodes) ≡ lines_for σ ns
    lines_same numbers seats F = rw nodes-front (export-lines E F)

    -- as many levels have a seat as the support has
    pub seats-count : {k : ℕ} {numbers seats : List ℕ} → Filled σ ns numbers seats → k ≡ length (support_of σ (take n nodes)) → k ≡ length (seated_levels seats)
    seats-count F q = q ∙ rw (nodes-front, seated-same F)
