-- Lines that were decoded are judged: where a reader gives only lines that their checks have let pass, so are all lines that it reads one
-- after the other. Document 01, 'Node lines'.
use mathlib.Core.Path.{◌≡◌, refl, subst}
use mathlib.Core.List.{List, [], ◌∷◌, ◌++◌}
use Prim.Native.Nat.{ℕ, zero, suc, ◌+◌}
use native.Mathlib.Omega.{arith}
use lib.ListN.{length, length-append}
use Rattle.codes.specs.Answer.{Step, got, fails}
use Rattle.node_lines.specs.Line.{Line, seat_of_line}
use Rattle.node_lines.specs.Decode.{NodeLines, node_lines, stopped, more_lines, decode_from}
use Rattle.imported.specs.Build.{Judged, AllJudged, none, one}

module _ (levels : List ℕ) (read : List ℕ → ℕ → ℕ → Step Line)
    (J : (seats : List ℕ) (n at : ℕ) (l : Line) (next : ℕ) → n ≡ length seats + 1 → read seats n at ≡ got l next → Judged levels seats n l) where
  -- the lines from line n on, after lines of these seats
  from-judged : (k : ℕ) (seats : List ℕ) (n at : ℕ) → n ≡ length seats + 1 → AllJudged levels seats (decode_from read k seats n at).lines
  unfolding decode_from
  from-judged zero seats n at q = none
  from-judged (suc k) seats n at q =
      go (read seats n at) refl (λ l next. from-judged k (seats ++ (seat_of_line l ∷ [])) (n + 1) next (omega (arith, length-append seats (seat_of_line l ∷ []))))
    where
      after : Step Line → NodeLines
      after (got l next) = more_lines l (decode_from read k (seats ++ (seat_of_line l ∷ [])) (n + 1) next)
      after (fails r) = node_lines [] (stopped r n)

      go : (x : Step Line) → read seats n at ≡ x
          → ((l : Line) (next : ℕ) → AllJudged levels (seats ++ (seat_of_line l ∷ [])) (decode_from read k (seats ++ (seat_of_line l ∷ [])) (n + 1) next).lines)
          → AllJudged levels seats (after x).lines
      go (got l next) e ih = one (subst (λ (i : ℕ). Judged levels seats i l) q (J seats n at l next q e)) (ih l next)
      go (fails r) e ih = none

  -- all lines
  pub decoded-judged : (k at : ℕ) → AllJudged levels [] (decode_from read k [] 1 at).lines
  decoded-judged k at = from-judged k [] 1 at refl
