-- The first word of a line, by the searches that find it.
use mathlib.Core.Path.{◌≡◌, subst, ◌∙◌}
use mathlib.Core.Bool.{false}
use mathlib.Core.List.{List, [], ◌∷◌}
use Prim.Native.Nat.{ℕ, ◌+◌, ◌-◌, ◌≤◌, ◌<◌}
use native.Mathlib.Omega.{arith}
use lib.ListN.{length, get_or, take, drop}
use Rattle.codes.specs.Bytes.{is_blank}
use Rattle.read_lines.specs.declared.Class.TheVariants.{Blank, NonBlank}
use Rattle.read_lines.specs.Words.{Word, word, words}
use Rattle.read_lines.specs.Line.{is_of, seek}
use Rattle.codes.specs.Answer.{fails}
use Rattle.read_numbers.specs.Number.{single, ends_at, first}
use Rattle.read_lines.specs.Each.{Each, each}
use Rattle.read_lines.proofs.Spaced.{words-inside}
use Rattle.read_lines.proofs.Searches.{split, seek-past, seek-end, seek-low, found}
use Rattle.read_lines.proofs.Found.{from, from_end, part_length, words-start, words-skip, words-next, at-text}
use mathlib.Core.Logic.{⊎_elim}

-- A search for a blank from a byte that is none ends behind it.
pub end_after : (s : List ℕ) (at end : ℕ) → at < length s → is_blank (get_or s at 0) ≡ false → end ≡ seek (is_of Blank) s at (length s - at) → at < end
unfolding is_of
end_after s at end h e k =
    let l = seek-low (is_of Blank) s (length s - (at + 1)) (at + 1) in
    let m = k ∙ seek-past (is_of Blank) s at (length s) h e in omega arith

-- The first number of a line is its first word's, and none where there is no word.
module _ (lim : ℕ) (s : List ℕ) (at end : ℕ) (a : at ≡ seek (is_of NonBlank) s 0 (length s - 0)) (e : end ≡ seek (is_of Blank) s at (length s - at)) where
  words-at : words 0 s ≡ from 0 s at []
  words-at = words-start 0 s ∙ words-skip 0 s 0 (omega arith) ∙ rw a

  first-there : at < length s → first lim s ≡ ends_at end (single lim (take (end - at) (drop at s)))
  unfolding first
  first-there h =
      let b = found (is_of Blank) s (length s - at) at in
      let w : words 0 s ≡ word (0 + at) (take (end - at) (drop at s)) ∷ from 0 s end [] = words-at ∙ words-next 0 s at h (at-text s 0 at (omega arith) a h) ∙ rw e in
      let l : 0 + at + length (take (end - at) (drop at s)) ≡ end = rw (part_length 0 s at end (omega arith) (omega arith)) (omega arith) in rw (w, l)

  first-none : length s ≤ at → first lim s ≡ ends_at end (single lim (take (end - at) (drop at s)))
  unfolding first single
  first-none h =
      let w : words 0 s ≡ [] = words-at ∙ from_end 0 s at [] h in
      let l : end - at ≡ 0 = let k = e ∙ seek-end (is_of Blank) s at (length s) h in omega arith in rw (w, l)

  pub first_word : first lim s ≡ ends_at end (single lim (take (end - at) (drop at s)))
  first_word = ⊎_elim first-none first-there (split at (length s))

-- The first number by the words of the line.
module _ (s : List ℕ) where
  pub first-no_word : (lim : ℕ) → words 0 s ≡ [] → first lim s ≡ fails 14
  unfolding first
  first-no_word lim e = rw e

  module _ {w : Word} {ws : List Word} (e : words 0 s ≡ w ∷ ws) where
    pub first-of_word : (lim : ℕ) → first lim s ≡ ends_at (w.start + length w.bytes) (single lim w.bytes)
    unfolding first
    first-of_word lim = rw e

    -- It ends inside the line.
    pub first-inside : w.start + length w.bytes ≤ length s
    first-inside = head (subst (Each (λ v. v.start + length v.bytes ≤ 0 + length s)) e (words-inside 0 s))
      where
        head : Each (λ v. v.start + length v.bytes ≤ 0 + length s) (w ∷ ws) → w.start + length w.bytes ≤ length s
        head (each h k) = omega arith
