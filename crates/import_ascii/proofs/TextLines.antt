-- Laws of a node line of text, by what was read of it.
use mathlib.Core.Path.{◌≡◌}
use mathlib.Core.Bool.{Bool}
use mathlib.Core.List.{List}
use Prim.Native.Nat.{ℕ, ◌^◌, ◌<◌}
use lib.ListN.{length}
use lib.IntN.{ℤ, nat_abs}
use borrow.Author.Tests.{lt-ltb, eq-eqb, ne_eqb}
use Rattle.codes.specs.Answer.{Read, value, got}
use Rattle.read_numbers.specs.Number.{single}
use Rattle.read_edges.specs.Edges.{Pair, pair}
use Rattle.read_lines.specs.Line.{line_of}
use Rattle.read_lines.specs.declared.Line as bounds
use Rattle.header_lines.specs.Sweep.{part}
use Rattle.node_lines.specs.Line.{Line}
use Rattle.import_ascii.specs.Text.{variable, described, text_line, text_line_at}

-- a line of a word that is a number, and of two children of which none is 0
pub list-position : (levels seats : List ℕ) (n : ℕ) (word : List ℕ) {a : Read Pair} {m : ℕ} {t e : ℤ} → a ≡ value (pair m t e) → m ≡ 2
    → (nat_abs t ≡ 0 → ⊥) → (nat_abs e ≡ 0 → ⊥) → {p : ℕ} → value p ≡ single (2 ^ 32) word
    → {r : Read Line} → r ≡ variable levels seats n t e (value p) → r ≡ described levels seats n word a
list-position levels seats n word {m = m} {t = t} {e = e} q h y x f k = rw (q, eq-eqb m 2 h, ne_eqb (nat_abs t) 0 y, ne_eqb (nat_abs e) 0 x, ← f) k

-- a line that is read
pub line-got : (extra : Bool) (levels seats : List ℕ) (n : ℕ) (f : List ℕ) (at : ℕ) → at < length f → {l : bounds.Line} → l ≡ line_of f at
    → {a : Line} → value a ≡ text_line extra levels seats n (part f at l.end) → got a l.next ≡ text_line_at extra levels seats n f at
unfolding text_line_at
line-got extra levels seats n f at h e k = rw (lt-ltb at (length f) h, ← e, ← k)
