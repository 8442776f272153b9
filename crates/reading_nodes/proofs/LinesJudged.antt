-- The lines of an export pass a load's checks: each has a support position, and children that are earlier lines, deeper than it. Document
-- 01, 'Node lines': '34 variable out of range; 35 child .. not below its node; 36 level not above both children's'.
use mathlib.Core.Path.{◌≡◌, refl}
use mathlib.Core.Bool.{true}
use mathlib.Core.List.{List, [], ◌∷◌, ◌++◌, map, map-append}
use Prim.Native.Nat.{ℕ, ◌+◌, ◌-◌, ◌≤◌, ◌<◌}
use native.Mathlib.Omega.{arith}
use lib.ListN.{length, length-map}
use lib.IntN.{ℤ, nat_abs}
use borrow.Author.Tests.{lt-ltb, ne_eqb}
use Rattle.codes.specs.Limits.{Limits}
use Rattle.store.specs.Store.{Store, level_at, then_at, else_at}
use Rattle.store.specs.Rules.{depth}
use Rattle.store.proofs.Meaning.{depth-node}
use Rattle.read_lines.specs.Each.{Each}
use Rattle.read_lines.specs.Each as every
use Rattle.seats.specs.Seats.{seat_of}
use Rattle.node_lines.specs.Line.{Line, inner, seat_deeper, deeper}
use Rattle.node_lines.specs.Line as line
use Rattle.numbering.specs.Numbering.{numbering}
use Rattle.numbering.specs.Support.{support_of}
use Rattle.export_nodes.specs.Lines.{renumbered, line_of_node, lines_for}
use Rattle.imported.specs.Build.{ChildBelow, Judged, AllJudged, none, one}
use Rattle.export_nodes.specs.Exported.{Exported}
use Rattle.export_nodes.proofs.Renumbered.{Numbered, renumbered-abs, renumbered-plain, NodeAt, terminal_at, inner_at, seated-node}
use Rattle.export_nodes.proofs.Support.{level-back, position-low}
use Rattle.reading_nodes.specs.Back.{ThenPlain}
use Rattle.reading_nodes.proofs.Parts.{Parts, parts-start, parts_more, seat-early}
use Rattle.reading_nodes.proofs.NumbersBack.{next-node}

-- the line of a node, and its seat
abbrev pub line_of : Store → List ℕ → ℕ → Line
line_of σ ns = line_of_node σ (support_of σ ns) ns

abbrev line_seat : Store → List ℕ → ℕ → ℕ
line_seat σ ns n = line.seat_of_line (line_of σ ns n)

-- of a node other than the terminal
pub line-inner : (σ : Store) (ns : List ℕ) (n : ℕ) → 2 ≤ n
    → line_of σ ns n ≡ inner (seat_of (level_at σ n) (support_of σ ns) - 1) (renumbered ns (then_at σ n)) (renumbered ns (else_at σ n))
unfolding line_of_node
line-inner σ ns n p = rw (ne_eqb n 1 (λ e. omega arith))

-- a line lies as deep as its node
line-deep : {σ : Store} {ns : List ℕ} {i n : ℕ} (l : ℕ) → NodeAt σ ns i n → l < depth σ n → seat_deeper (support_of σ ns) l (line_seat σ ns n) ≡ true
unfolding line_of_node
line-deep l terminal_at d = refl
line-deep {σ} {ns} {i} {n} l (inner_at I) d =
    rw (line-inner σ ns n I.node) (lt-ltb l _ (rw (level-back I) (omega (arith, depth-node σ n I.node))))

-- 'then is positive' of a line, as it is of its node
line_plain : {σ : Store} {ns : List ℕ} {i n : ℕ} → NodeAt σ ns i n → ThenPlain (line_of σ ns n)
unfolding line_of_node
line_plain terminal_at = tt
line_plain {σ} {ns} {i} {n} (inner_at I) = rw (line-inner σ ns n I.node) (renumbered-plain ns (then_at σ n) I.fits.positive)

module _ {m : Limits} {σ : Store} {roots : List ℤ} (E : Exported m σ roots) where
  abbrev ns : List ℕ
  ns = numbering σ roots

  module _ {before rest : List ℕ} (p : Parts ns before rest) where
    -- a child of the next line
    child-judged : (l : ℕ) (c : ℤ) → Numbered ns (length before) c → l < depth σ (nat_abs c)
        → ChildBelow (support_of σ ns) (map (line_seat σ ns) before) (length (map (line_seat σ ns) before) + 1) l (renumbered ns c)
    unfolding deeper
    child-judged l c m d = record {
      some = rw (renumbered-abs ns c) m.some;
      below = rw (renumbered-abs ns c, length-map before (line_seat σ ns)) (omega (arith, m.early));
      deep = rw (renumbered-abs ns c, seat-early (nat_abs c) ns m.some (line_seat σ ns) 0 p m.early)
          (line-deep l (seated-node E (nat_abs c) m.some) d);
    }

    -- the next line
    line-judged : {n : ℕ} → NodeAt σ ns (length before) n
        → Judged (support_of σ ns) (map (line_seat σ ns) before) (length (map (line_seat σ ns) before) + 1) (line_of σ ns n)
    unfolding line_of_node
    line-judged terminal_at = tt
    line-judged {n} (inner_at I) = rw (line-inner σ ns n I.node) (record {
      position = position-low I;
      then = rw (level-back I) (child-judged (level_at σ n) (then_at σ n) I.then I.fits.then_deep);
      els = rw (level-back I) (child-judged (level_at σ n) (else_at σ n) I.els I.fits.else_deep);
    })

  -- the lines from the next on
  rest-judged : (before rest : List ℕ) → Parts ns before rest
      → AllJudged (support_of σ ns) (map (line_seat σ ns) before) (map (line_of σ ns) rest)
  rest-judged before [] p = none
  rest-judged before (n ∷ rest) p =
      one (line-judged p (next-node E p)) (rw map-append at (rest-judged (before ++ (n ∷ [])) rest (parts_more p)))

  -- Each line has a support position, and children below it that lie deeper than it.
  pub lines-judged : AllJudged (support_of σ ns) [] (lines_for σ ns)
  unfolding lines_for
  lines-judged = rest-judged [] ns (parts-start ns)

  -- those have positive then children
  rest_plain : (before rest : List ℕ) → Parts ns before rest → Each ThenPlain (map (line_of σ ns) rest)
  rest_plain before [] p = every.none
  rest_plain before (n ∷ rest) p = every.each (line_plain (next-node E p)) (rest_plain (before ++ (n ∷ [])) rest (parts_more p))

  -- Each then child is positive.
  pub lines-plain : Each ThenPlain (lines_for σ ns)
  unfolding lines_for
  lines-plain = rest_plain [] ns (parts-start ns)
