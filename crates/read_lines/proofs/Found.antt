-- The words of a line, by the searches that find them.
use mathlib.Core.Path.{◌≡◌, refl, sym, ap, ◌∙◌}
use mathlib.Core.Bool.{Bool, true, false}
use mathlib.Core.List.{List, [], ◌∷◌, ◌++◌}
use Prim.Native.Nat.{ℕ, zero, suc, ◌+◌, ◌-◌, ◌≤◌, ◌<◌}
use native.Mathlib.Numerals.{add-one}
use native.Mathlib.Omega.{arith}
use lib.ListN.{length, get_or, take, drop, drop_of_length-le, length-take, length-drop}
use lib.Seq.{drop-cons, take-suc, get_or-drop}
use borrow.Author.Tests.{not-true}
use Rattle.std.proofs.lemmas.List.{take_rest}
use Rattle.codes.specs.Bytes.{is_blank}
use Rattle.read_lines.specs.declared.Class.TheVariants.{Blank, NonBlank}
use Rattle.read_lines.specs.Words.{Word, word, ended_word, words_from, words}
use Rattle.read_lines.specs.Line.{is_of, seek}
use Rattle.read_lines.proofs.Searches.{seek-past, seek-has}

-- s is the line, and its first byte stands at base
module _ (base : ℕ) (s : List ℕ) where
  -- the words from the position i of the line on, after the bytes w of a word
  abbrev pub from : ℕ → List ℕ → List Word
  from i w = words_from (base + i) w (drop i s)

  -- one byte more
  module _ (i : ℕ) (w : List ℕ) where
    from-blank : i < length s → is_blank (get_or s i 0) ≡ true → from i w ≡ ended_word (base + i) w (from (i + 1) [])
    unfolding words_from
    from-blank h e = let k : base + (i + 1) ≡ base + i + 1 = omega arith in rw (drop-cons s i 0, k, add-one, e, words_from)

    from-text : i < length s → is_blank (get_or s i 0) ≡ false → from i w ≡ from (i + 1) (w ++ (get_or s i 0 ∷ []))
    unfolding words_from
    from-text h e = let k : base + (i + 1) ≡ base + i + 1 = omega arith in rw (drop-cons s i 0, k, add-one, e, words_from)

    pub from_end : length s ≤ i → from i w ≡ ended_word (base + i) w []
    unfolding words_from
    from_end h = rw (drop_of_length-le s h)

  -- Blanks are skipped.
  skip_by : (n i : ℕ) (b : Bool) → is_blank (get_or s i 0) ≡ b → i + suc n ≡ length s
      → (from (i + 1) [] ≡ from (seek (is_of NonBlank) s (i + 1) n) []) → from i [] ≡ from (seek (is_of NonBlank) s i (suc n)) []
  unfolding seek is_of
  skip_by n i true e h k = from-blank i [] (omega arith) e ∙ rw e k
  skip_by n i false e h k = rw e

  skip : (n i : ℕ) → i + n ≡ length s → from i [] ≡ from (seek (is_of NonBlank) s i n) []
  unfolding seek
  skip zero i h = refl
  skip (suc n) i h = skip_by n i (is_blank (get_or s i 0)) refl h (skip n (i + 1) (omega arith))

  -- The bytes of a word grow by the next one.
  part-more : (a i : ℕ) → a ≤ i → i < length s → take (i + 1 - a) (drop a s) ≡ take (i - a) (drop a s) ++ (get_or s i 0 ∷ [])
  part-more a i h b =
      let k : i + 1 - a ≡ suc (i - a) = omega arith in
      let m : a + (i - a) ≡ i = omega arith in
      let l : i - a < length (drop a s) = simp length-drop (omega arith) in rw (k, take-suc (drop a s) (i - a) 0 l, get_or-drop, m)

  pub part_length : (a i : ℕ) → a ≤ i → i ≤ length s → length (take (i - a) (drop a s)) ≡ i - a
  part_length a i h b = simp (length-take, length-drop) (omega arith)

  ended_some : (a i : ℕ) (w : List ℕ) (ws : List Word) → a < i → length w ≡ i - a → ended_word (base + i) w ws ≡ word (base + a) w ∷ ws
  ended_some a i [] ws h k = absurd (omega arith)
  ended_some a i (x ∷ w) ws h k = let m : base + i - suc (length w) ≡ base + a = omega arith in rw m

  -- A word that began at a runs from i to the next blank.
  module _ (a : ℕ) where
    abbrev begun : ℕ → List Word
    begun i = from i (take (i - a) (drop a s))

    abbrev whole : ℕ → List Word
    whole j = word (base + a) (take (j - a) (drop a s)) ∷ from j []

    begun-blank : (i : ℕ) → a < i → i < length s → is_blank (get_or s i 0) ≡ true → begun i ≡ whole i
    begun-blank i h b e =
        from-blank i _ b e
        ∙ ended_some a i _ _ h (part_length a i (omega arith) (omega arith))
        ∙ ap (λ ws. word (base + a) (take (i - a) (drop a s)) ∷ ws) (sym (from-blank i [] b e))

    begun-end : (i : ℕ) → a < i → i ≡ length s → begun i ≡ whole i
    begun-end i h b =
        from_end i _ (omega arith)
        ∙ ended_some a i _ _ h (part_length a i (omega arith) (omega arith))
        ∙ ap (λ ws. word (base + a) (take (i - a) (drop a s)) ∷ ws) (sym (from_end i [] (omega arith)))

    begun-by : (n i : ℕ) (b : Bool) → is_blank (get_or s i 0) ≡ b → a < i → i + suc n ≡ length s
        → begun (i + 1) ≡ whole (seek (is_of Blank) s (i + 1) n) → begun i ≡ whole (seek (is_of Blank) s i (suc n))
    unfolding seek is_of
    begun-by n i true e h k r = rw e (begun-blank i h (omega arith) e)
    begun-by n i false e h k r =
        from-text i _ (omega arith) e ∙ ap (λ w. from (i + 1) w) (sym (part-more a i (omega arith) (omega arith))) ∙ rw e r

    begun-whole : (n i : ℕ) → a < i → i + n ≡ length s → begun i ≡ whole (seek (is_of Blank) s i n)
    unfolding seek
    begun-whole zero i h k = begun-end i h (omega arith)
    begun-whole (suc n) i h k =
        begun-by n i (is_blank (get_or s i 0)) refl h k (begun-whole n (i + 1) (omega arith) (omega arith))

  -- The next words after a search for a byte that is no blank, and after one for a blank from there.
  pub words-skip : (i : ℕ) → i ≤ length s → from i [] ≡ from (seek (is_of NonBlank) s i (length s - i)) []
  words-skip i h = skip (length s - i) i (omega arith)

  pub words-none : (i : ℕ) → length s ≤ i → from i [] ≡ []
  words-none i h = from_end i [] h

  pub words-next : (a : ℕ) → a < length s → is_blank (get_or s a 0) ≡ false
      → from a [] ≡ word (base + a) (take (seek (is_of Blank) s a (length s - a) - a) (drop a s)) ∷ from (seek (is_of Blank) s a (length s - a)) []
  unfolding is_of
  words-next a h e =
      let k : a - a ≡ 0 = omega arith in
      let one : take (a + 1 - a) (drop a s) ≡ get_or s a 0 ∷ [] = part-more a a (omega arith) h ∙ rw k in
      from-text a [] h e
      ∙ ap (λ w. from (a + 1) w) (sym one)
      ∙ begun-whole a (length s - (a + 1)) (a + 1) (omega arith) (omega arith)
      ∙ ap (λ j. word (base + a) (take (j - a) (drop a s)) ∷ from j []) (sym (seek-past (is_of Blank) s a (length s) h e))

-- the words of a line are those from its start on
pub words-start : (base : ℕ) (s : List ℕ) → words base s ≡ from base s 0 []
unfolding words
words-start base s = let k : base + 0 ≡ base = omega arith in rw k

-- A search for a byte that is no blank stands at one, if not at the end.
pub at-text : (s : List ℕ) (i at : ℕ) → i ≤ length s → at ≡ seek (is_of NonBlank) s i (length s - i) → at < length s → is_blank (get_or s at 0) ≡ false
unfolding is_of
at-text s i at b e h =
    let k : seek (is_of NonBlank) s i (length s - i) < i + (length s - i) = omega arith in
    rw e (not-true _ (seek-has (is_of NonBlank) s (length s - i) i k))

-- The next word of a line, by the two searches for where it starts and ends: what is left is the line behind it.
module _ (base : ℕ) (s : List ℕ) {at : ℕ} (a : at ≡ seek (is_of NonBlank) s 0 (length s - 0)) where
  words-found : words base s ≡ from base s at []
  words-found = words-start base s ∙ words-skip base s 0 (omega arith) ∙ rw a

  pub no_word : at ≡ length s → words base s ≡ []
  no_word h = words-found ∙ words-none base s at (omega arith)

  pub next_word : {end : ℕ} → at < length s → end ≡ seek (is_of Blank) s at (length s - at)
      → words base s ≡ word (base + at) (take (end - at) (drop at s)) ∷ words (base + end) (take (length s - end) (drop end s))
  unfolding words
  next_word {end} h e = words-found ∙ words-next base s at h (at-text s 0 at (omega arith) a h) ∙ rw (take_rest s end, e)
