-- Refusals of node lines: a line that is refused has one of its mode's numbers, and is one of the lines that the header counts. So 40 at
-- line 0 is only the store's. Document 01, 'Node lines', '30° .. 38'.
use mathlib.Core.Path.{◌≡◌, refl, sym, ap, ◌∙◌}
use mathlib.Core.Bool.{true, false}
use mathlib.Core.List.{List, [], ◌∷◌, ◌++◌}
use Prim.Native.Nat.{ℕ, zero, suc, ◌+◌, ◌≤◌, ◌<◌}
use native.Mathlib.Omega.{arith}
use Rattle.codes.specs.Answer.{Step, got, fails}
use Rattle.node_lines.specs.Line.{Line, seat_of_line}
use Rattle.node_lines.specs.Decode.{NodeLines, node_lines, stopped, more_lines, decode_from}
use Rattle.import_ascii.specs.Text.{text_line_at}
use Rattle.import_ascii.specs.TextNumbers.{TextNumber}
use Rattle.import_ascii.proofs.Refusals.{text-line-refuses}
use Rattle.import_bin.specs.Bin.{bin_line_at}
use Rattle.import_bin.specs.BinaryNumbers.{BinaryNumber}
use Rattle.import_bin.proofs.Refusals.{bin-line-refuses}
use Rattle.imported.specs.Import.{Setup, line_by, line_at, lines_in}

-- Where lines can't all be read, the one refused has its reader's refusal, and the number of one of the lines.
decoded-stopped : (read : List ℕ → ℕ → ℕ → Step Line) (P : ℕ → Type 0)
    → ((seats : List ℕ) (n at k : ℕ) → read seats n at ≡ fails k → P k)
    → (k : ℕ) (seats : List ℕ) (n at r i : ℕ) → (decode_from read k seats n at).end ≡ stopped r i → P r × ((n ≤ i) × (i < n + k))
unfolding decode_from
decoded-stopped read P h zero seats n at r i q = let z : ◌≡◌ {A = ℕ} 0 1 = cc in absurd (omega arith)
decoded-stopped read P h (suc k) seats n at r i q =
    go (read seats n at) refl (λ l next. decoded-stopped read P h k (seats ++ (seat_of_line l ∷ [])) (n + 1) next r i) q
  where
    left : Step Line → NodeLines
    left (got l next) = more_lines l (decode_from read k (seats ++ (seat_of_line l ∷ [])) (n + 1) next)
    left (fails m) = node_lines [] (stopped m n)

    go : (x : Step Line) → read seats n at ≡ x
        → ((l : Line) (next : ℕ) → (decode_from read k (seats ++ (seat_of_line l ∷ [])) (n + 1) next).end ≡ stopped r i
        → P r × ((n + 1 ≤ i) × (i < n + 1 + k)))
        → (left x).end ≡ stopped r i → P r × ((n ≤ i) × (i < n + suc k))
    go (got l next) e ih q = let w = ih l next q in (w.0, omega (arith, w.1.0, w.1.1))
    go (fails m) e ih q =
        let a : m ≡ r = cc in
        let b : n ≡ i = cc in
        (h seats n at r (e ∙ ap fails a), omega arith)

-- the reader of a file of text
text-line : (u : Setup) (f seats : List ℕ) (n at : ℕ) → u.ascii ≡ true → line_at u f seats n at ≡ text_line_at u.extra u.list seats n f at
unfolding line_by
text-line u f seats n at e = rw e

-- the reader of a binary file
bin_line : (u : Setup) (f seats : List ℕ) (n at : ℕ) → u.ascii ≡ false
    → line_at u f seats n at ≡ bin_line_at u.levels u.list seats n f at
unfolding line_by
bin_line u f seats n at e = rw e

-- The n-th line is refused with the number k.
pub record LineRefused (u : Setup) (k n : ℕ) : Type 0 where
  pub text : u.ascii ≡ true → TextNumber k
  pub binary : u.ascii ≡ false → BinaryNumber k
  pub from_one : 1 ≤ n
  pub to_last : n ≤ u.nnodes

-- Where the lines can't all be read one of them is refused so.
pub lines-stopped : (u : Setup) (f : List ℕ) (at k n : ℕ) → (lines_in u f at).end ≡ stopped k n → LineRefused u k n
unfolding lines_in
lines-stopped u f at k n q =
    let w = decoded-stopped (line_at u f) (λ (r : ℕ). (u.ascii ≡ true → TextNumber r) × (u.ascii ≡ false → BinaryNumber r))
    (λ seats i from r x. (
      λ e. text-line-refuses u.list seats i u.extra f from r (sym (text-line u f seats i from e) ∙ x),
      λ e. bin-line-refuses u.levels u.list seats i f from r (sym (bin_line u f seats i from e) ∙ x),
    ))
    u.nnodes [] 1 at k n q in
    record { text = w.0.0; binary = w.0.1; from_one = w.1.0; to_last = omega (arith, w.1.1) }
