-- The words of a value, as a reader finds them: what was joined is parted again.
use mathlib.Core.Path.{◌≡◌, refl}
use mathlib.Core.Bool.{true}
use mathlib.Core.List.{List, [], ◌∷◌, ◌++◌, append-nil}
use Prim.Native.Nat.{ℕ, ◌+◌, ◌≤◌}
use native.Mathlib.Omega.{arith}
use lib.ListN.{length}
use Rattle.codes.specs.Answer.{Read, value}
use Rattle.codes.specs.Bytes.{is_blank}
use Rattle.read_lines.specs.Each.{Each, none, each}
use Rattle.read_lines.specs.Words.{Word, words}
use Rattle.read_lines.specs.Spaced.{Blanks, Spaced, blanks, last, next}
use Rattle.read_lists.specs.Lists.{listed, judge}
use Rattle.read_lists.specs.Judged.{Reads, whole}
use Rattle.read_lines.proofs.Spaced.{spaced-words}
use Rattle.read_lists.proofs.Judged.{judged-judge}
use Rattle.writers.specs.Words.{spaced}
use Rattle.reading_header.specs.Joined.{joined, Plain}
use Rattle.reading_header.specs.Standing.{words_at}

space : is_blank 0x20 ≡ true
unfolding is_blank
space = refl

-- after blanks, a word and those behind it
after-blanks : {b w : List ℕ} {ws : List (List ℕ)} (at : ℕ) → Blanks b → Plain w → Each Plain ws
    → Spaced at (b ++ (w ++ spaced ws)) (words_at (at + length b) (w ∷ ws))
unfolding spaced words_at
after-blanks {b} {w} at h p none = rw append-nil (last b w h p.text)
after-blanks {b} {w} at h p (each q k) = next b w h p.text space (after-blanks (at + length b + length w) (each space none) q k)

joined-spaced : {ws : List (List ℕ)} (at : ℕ) → Each Plain ws → Spaced at (joined ws) (words_at at ws)
unfolding joined words_at
joined-spaced at none = blanks none
joined-spaced at (each p k) = let z : at + 0 ≡ at = omega arith in rw z at (after-blanks at none p k)

module _ {ws : List (List ℕ)} (at : ℕ) (plains : Each Plain ws) where
  -- The words found are those that were joined, each where it stands.
  pub words_back : words at (joined ws) ≡ words_at at ws
  words_back = spaced-words (joined-spaced at plains)

  -- A list of them, each of which reads as an entry, is accepted, and has these entries.
  pub judge-back : {A : Type 0} (read : Word → Read A) (max : ℕ) {es : List A} → Reads read (words_at at ws) es → length es ≤ max
      → judge read max [] (words at (joined ws)) ≡ listed (value (length es)) es
  judge-back read max r h = rw words_back (judged-judge read max [] (words_at at ws) (whole r h))

-- One word is its own value.
pub joined-one : (w : List ℕ) → joined (w ∷ []) ≡ w
unfolding joined spaced
joined-one w = append-nil w
