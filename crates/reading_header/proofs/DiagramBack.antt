-- The diagram's name, read back without the blanks at its ends.
use mathlib.Core.Path.{◌≡◌, refl}
use mathlib.Core.Bool.{true}
use mathlib.Core.List.{List, [], ◌∷◌}
use Prim.Native.Nat.{ℕ}
use lib.ListN.{take, drop}
use Rattle.codes.specs.Answer.{value}
use Rattle.read_text.specs.Text.{placed, text_at}
use Rattle.header_faults.specs.Judge.{text_fault}
use Rattle.export_names.specs.Names.{name_at, fit_name}
use Rattle.export_names.proofs.FitNames.{fit-utf8}
use Rattle.reading_header.specs.Joined.{trimmed}
use Rattle.reading_header.proofs.Standing.{has_part, has-front}
use Rattle.reading_header.proofs.Trimming.{trimmed-utf8}

module _ (at : ℕ) (s : List ℕ) (fit : fit_name true s ≡ true) where
  -- The text is read as its place, start 0 and length 0 where nothing is left,
  pub diagram-back : text_at at (trimmed s) ≡ value (placed at (trimmed s))
  unfolding text_at
  diagram-back = rw (trimmed-utf8 s (fit-utf8 true s fit))

  -- with no fault.
  pub diagram-faultless : text_fault at (trimmed s) ≡ 0
  unfolding text_fault
  diagram-faultless = rw diagram-back

-- Where the file has the text, its place holds it.
pub text-there : (f : List ℕ) (n at : ℕ) (s : List ℕ) → take n (drop at f) ≡ s → name_at f (placed at s) ≡ s
text-there f n at [] e = refl
text-there f n at (x ∷ s) e = has-front (has_part f n at e)
