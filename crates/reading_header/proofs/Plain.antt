-- Which words are plain: those of bytes above the space, as digits and a minus are, and the names of variables and roots.
use mathlib.Core.Path.{◌≡◌, refl, ap}
use mathlib.Core.Bool.{Bool, true, false, ◌&&◌}
use mathlib.Core.List.{List, [], ◌∷◌}
use Prim.Native.Nat.{ℕ, ◌≤◌, ◌<◌}
use native.Mathlib.Omega.{arith}
use lib.Dec.{ltb}
use lib.ListN.{length}
use borrow.Author.Tests.{ltb-true, ne_eqb}
use Rattle.codes.specs.Bytes.{is_blank, is_line_end}
use Rattle.codes.proofs.Bytes.{both, digit-bounds}
use Rattle.read_lines.specs.Each.{Each, none, each}
use Rattle.read_numbers.specs.Digits.{Digits}
use Rattle.export_names.specs.Names.{fit_name}
use Rattle.export_names.proofs.FitNames.{fit-text, fit_line}
use Rattle.reading_header.specs.Joined.{Plain}
use Rattle.reading_header.proofs.Elements.{each-by}

-- bytes above the space
abbrev pub Above : List ℕ → Type 0
Above w = Each (λ b. 0x20 < b) w

-- none is a blank or a line end
module _ (b : ℕ) (h : 0x20 < b) where
  no-blank : is_blank b ≡ false
  unfolding is_blank
  no-blank = rw (ne_eqb b 32 (λ e. omega arith), ne_eqb b 9 (λ e. omega arith))

  no-line-end : is_line_end b ≡ false
  unfolding is_line_end
  no-line-end = rw (ne_eqb b 10 (λ e. omega arith), ne_eqb b 13 (λ e. omega arith))

pub above-plain : {w : List ℕ} → Above w → 1 ≤ length w → Plain w
above-plain k h = record {
  text = record { some = λ e. omega (arith, ap length e); free = each-by no-blank k };
  line = each-by no-line-end k;
}

-- Digits are above it.
pub digits_above : {w : List ℕ} → Digits w → Above w
digits_above d = each-by (λ b h. omega (arith, digit-bounds b h)) d

-- A word that is written out is tested.
abbrev pub above : List ℕ → Bool
above [] = true
above (b ∷ w) = ltb 0x20 b && above w

tested-above : (w : List ℕ) → above w ≡ true → Above w
tested-above [] h = none
tested-above (b ∷ w) h = let p = both (ltb 0x20 b) (above w) h in each (ltb-true 0x20 b p.0) (tested-above w p.1)

pub literal-plain : (b : ℕ) (w : List ℕ) → above (b ∷ w) ≡ true → Plain (b ∷ w)
literal-plain b w h = above-plain (tested-above (b ∷ w) h) (omega arith)

-- So is a name, other than the diagram's.
pub name-plain : (name : List ℕ) → fit_name false name ≡ true → Plain name
name-plain name h = record { text = fit-text name h; line = fit_line false name h }

-- A plain word is not empty.
pub plain-some : {w : List ℕ} → Plain w → 1 ≤ length w
plain-some {w} p = go w p.text.some
  where
    go : (v : List ℕ) → (v ≡ [] → ⊥) → 1 ≤ length v
    go [] h = absurd (h refl)
    go (b ∷ v) h = omega arith
