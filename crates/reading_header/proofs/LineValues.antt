-- The value of a line by its words: trimmed, they have a space between two.
use mathlib.Core.Path.{◌≡◌, refl, ◌∙◌}
use mathlib.Core.Bool.{false}
use mathlib.Core.List.{List, [], ◌∷◌, ◌++◌, append-nil}
use Prim.Native.Nat.{ℕ, ◌<◌}
use native.Mathlib.Omega.{arith}
use lib.ListN.{length, length-append}
use Rattle.codes.specs.Bytes.{is_blank}
use Rattle.read_lines.specs.Each.{Each, none, each}
use Rattle.header_keys.specs.declared.Key.{Key}
use Rattle.writers.specs.Words.{spaced}
use Rattle.heading.specs.Lines.{HeaderLine, line}
use Rattle.reading_header.specs.Joined.{joined, Plain, kept, without_front, without_back, trimmed}
use Rattle.reading_header.specs.Spans.{line_value}
use Rattle.reading_header.proofs.Elements.{each_at}
use Rattle.reading_header.proofs.Plain.{plain-some}

-- The space before the first word is trimmed off,
value-trimmed : (l : HeaderLine) → line_value l ≡ trimmed (joined l.words)
unfolding line_value trimmed without_front joined spaced is_blank
value-trimmed l = by l.words
  where
    by : (ws : List (List ℕ)) → trimmed (spaced ws) ≡ trimmed (joined ws)
    by [] = refl
    by (w ∷ ws) = refl

-- so that a line of one word has that as its value, trimmed.
pub value-single : (k : Key) (w : List ℕ) → line_value (line k (w ∷ [])) ≡ trimmed w
unfolding joined spaced
value-single k w = value-trimmed (line k (w ∷ [])) ∙ rw append-nil

-- nothing is trimmed off bytes without blanks
back-free : {s : List ℕ} → Each (λ b. is_blank b ≡ false) s → without_back s ≡ s
unfolding without_back
back-free none = refl
back-free (each {l = []} h k) = rw h
back-free (each {l = c ∷ s} h k) = rw (back-free k)

-- nor off those before them
kept-some : (b : ℕ) (s : List ℕ) → 0 < length s → kept b s ≡ b ∷ s
kept-some b [] h = absurd (omega arith)
kept-some b (c ∷ s) h = refl

back-append : (s t : List ℕ) → 0 < length t → without_back t ≡ t → without_back (s ++ t) ≡ s ++ t
unfolding without_back
back-append [] t h e = e
back-append (b ∷ s) t h e = rw (back-append s t h e) (kept-some b (s ++ t) (simp length-append (omega arith)))

-- nor off words
spaced-back : {w : List ℕ} {ws : List (List ℕ)} → Plain w → Each Plain ws → without_back (w ++ spaced ws) ≡ w ++ spaced ws
unfolding spaced
spaced-back p none = rw append-nil (back-free p.text.free)
spaced-back {w} p (each {a = v} {l = vs} q k) =
    let some : 0 < length (v ++ spaced vs) = omega (arith, plain-some q, length-append v (spaced vs)) in
    back-append w (0x20 ∷ (v ++ spaced vs)) (omega arith) (back-append (0x20 ∷ []) (v ++ spaced vs) some (spaced-back q k))

words-trimmed : {ws : List (List ℕ)} → Each Plain ws → trimmed (joined ws) ≡ joined ws
unfolding trimmed without_front without_back joined
words-trimmed none = refl
words-trimmed (each {a = []} p ps) = absurd (p.text.some refl)
words-trimmed (each {a = b ∷ w} p ps) = let h = each_at 0 0 (omega arith) p.text.free in rw h (spaced-back p ps)

-- The value of a line of words has these with a space between two.
pub value-joined : (l : HeaderLine) → Each Plain l.words → line_value l ≡ joined l.words
value-joined l h = value-trimmed l ∙ words-trimmed h
