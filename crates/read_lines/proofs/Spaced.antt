-- The definition takes the words of a line from left to right; these laws say which they are.
use mathlib.Core.Path.{◌≡◌, refl, sym, ap, subst, ◌∙◌}
use mathlib.Core.Bool.{Bool, true, false}
use mathlib.Core.List.{List, [], ◌∷◌, ◌++◌, append_assoc, append-nil}
use Prim.Native.Nat.{ℕ, suc, ◌+◌, ◌-◌, ◌≤◌}
use native.Mathlib.Omega.{arith}
use lib.ListN.{length, length-append}
use Rattle.codes.specs.Bytes.{is_blank}
use Rattle.read_lines.specs.Words.{Word, word, ended_word, words_from, words}
use Rattle.read_lines.specs.Each.{Each, none, each}
use Rattle.read_lines.specs.Spaced.{Blanks, Free, Text, Spaced, blanks, last, next}

-- one byte more
module _ (at : ℕ) (w : List ℕ) (x : ℕ) (s : List ℕ) where
  at-blank : is_blank x ≡ true → words_from at w (x ∷ s) ≡ ended_word at w (words_from (at + 1) [] s)
  unfolding words_from
  at-blank e = rw (e, words_from)

  at-text : is_blank x ≡ false → words_from at w (x ∷ s) ≡ words_from (at + 1) (w ++ (x ∷ [])) s
  unfolding words_from
  at-text e = rw (e, words_from)

-- Blanks are skipped.
over-blanks : {b : List ℕ} (at : ℕ) (s : List ℕ) → Blanks b → words_from at [] (b ++ s) ≡ words_from (at + length b) [] s
over-blanks at s none = let k : at + 0 ≡ at = omega arith in rw k
over-blanks at s (each {a = x} {l = b} e h) =
    let k : at + suc (length b) ≡ at + 1 + length b = omega arith in at-blank at [] x (b ++ s) e ∙ rw k (over-blanks (at + 1) s h)

-- Other bytes are gathered.
over-text : {v : List ℕ} (at : ℕ) (w s : List ℕ) → Free v → words_from at w (v ++ s) ≡ words_from (at + length v) (w ++ v) s
over-text at w s none = let k : at + 0 ≡ at = omega arith in rw (k, append-nil)
over-text at w s (each {a = x} {l = v} e h) =
    let k : at + suc (length v) ≡ at + 1 + length v = omega arith in
    at-text at w x (v ++ s) e ∙ over-text (at + 1) (w ++ (x ∷ [])) s h ∙ rw (k, append_assoc)

-- a word's end
ended-text : (at : ℕ) (w : List ℕ) (ws : List Word) → (w ≡ [] → ⊥) → ended_word (at + length w) w ws ≡ word at w ∷ ws
ended-text at [] ws h = absurd (h refl)
ended-text at (x ∷ w) ws h = let k : at + suc (length w) - suc (length w) ≡ at = omega arith in rw k

-- What the line has is what is found.
spaced-from : {at : ℕ} {s : List ℕ} {ws : List Word} → Spaced at s ws → words_from at [] s ≡ ws
unfolding words_from
spaced-from {at} {s} (blanks h) = ap (λ l. words_from at [] l) (sym (append-nil s)) ∙ over-blanks at [] h
spaced-from {at} (last b w h t) =
    over-blanks at w h
    ∙ ap (λ l. words_from (at + length b) [] l) (sym (append-nil w))
    ∙ over-text (at + length b) [] [] t.free
    ∙ ended-text (at + length b) w [] t.some
spaced-from {at} (next b w {x = x} {s = s} {ws = ws} h t e k) =
    over-blanks at (w ++ (x ∷ s)) h
    ∙ over-text (at + length b) [] (x ∷ s) t.free
    ∙ at-blank (at + length b + length w) w x s e
    ∙ ended-text (at + length b) w _ t.some
    ∙ ap (λ l. word (at + length b) w ∷ l) (sym (at-blank (at + length b + length w) [] x s e) ∙ spaced-from k)

pub spaced-words : {at : ℕ} {s : List ℕ} {ws : List Word} → Spaced at s ws → words at s ≡ ws
unfolding words
spaced-words h = spaced-from h

-- The other way: every line is such a line.
spaced-blank : {at : ℕ} {s : List ℕ} {ws : List Word} (x : ℕ) → is_blank x ≡ true → Spaced (at + 1) s ws → Spaced at (x ∷ s) ws
spaced-blank x e (blanks h) = blanks (each e h)
spaced-blank {at} x e (last b w h t) = let k : at + 1 + length b ≡ at + suc (length b) = omega arith in rw k (last (x ∷ b) w (each e h) t)
spaced-blank {at} x e (next b w h t f k) =
    let m : at + 1 + length b ≡ at + suc (length b) = omega arith in rw m (next (x ∷ b) w (each e h) t f (rw m at k))

-- a word that begins the line
module _ (at : ℕ) (w : List ℕ) (t : Text w) where
  no-blanks : at + 0 ≡ at
  no-blanks = omega arith

  spaced-last : Spaced at w (word at w ∷ [])
  spaced-last = subst (λ (a : ℕ). Spaced at w (word a w ∷ [])) no-blanks (last [] w none t)

  spaced-next : {x : ℕ} {s : List ℕ} {ws : List Word} → is_blank x ≡ true → Spaced (at + length w) (x ∷ s) ws → Spaced at (w ++ (x ∷ s)) (word at w ∷ ws)
  spaced-next {x} {s} {ws} e k = subst (λ (a : ℕ). Spaced at (w ++ (x ∷ s)) (word a w ∷ ws)) no-blanks (next [] w none t e (rw no-blanks k))

-- where the bytes w of a word stand before a blank, or before the end
ended-next : (at : ℕ) (w : List ℕ) {x : ℕ} {s : List ℕ} {ws : List Word} → Free w → is_blank x ≡ true
    → Spaced (at + length w) (x ∷ s) ws → Spaced at (w ++ (x ∷ s)) (ended_word (at + length w) w ws)
ended-next at [] f e k = let z : at + 0 ≡ at = omega arith in rw z at k
ended-next at (y ∷ w) {ws = ws} f e k =
    let some : (y ∷ w) ≡ [] → ⊥ = λ z. let q : ◌≡◌ {A = ℕ} 0 1 = cc in omega arith in
    rw (ended-text at (y ∷ w) ws some) (spaced-next at (y ∷ w) (record { some = some; free = f }) e k)

ended-last : (at : ℕ) (w : List ℕ) → Free w → Spaced at (w ++ []) (ended_word (at + length w) w [])
ended-last at [] f = blanks none
ended-last at (y ∷ w) f =
    let some : (y ∷ w) ≡ [] → ⊥ = λ z. let q : ◌≡◌ {A = ℕ} 0 1 = cc in omega arith in
    rw (ended-text at (y ∷ w) [] some, append-nil) (spaced-last at (y ∷ w) (record { some = some; free = f }))

free-last : {w : List ℕ} (x : ℕ) → Free w → is_blank x ≡ false → Free (w ++ (x ∷ []))
free-last x none e = each e none
free-last x (each d h) e = each d (free-last x h e)

from-by : (at : ℕ) (w : List ℕ) (x : ℕ) (s : List ℕ) (b : Bool) → is_blank x ≡ b → Free w
    → ((start : ℕ) (v : List ℕ) → Free v → Spaced start (v ++ s) (words_from (start + length v) v s))
    → Spaced at (w ++ (x ∷ s)) (words_from (at + length w) w (x ∷ s))
from-by at w x s true e f k =
    let z : at + length w + 1 + 0 ≡ at + length w + 1 = omega arith in
    rw (at-blank (at + length w) w x s e) (ended-next at w f e (spaced-blank x e (rw z at (k (at + length w + 1) [] none))))
from-by at w x s false e f k =
    let z : at + length (w ++ (x ∷ [])) ≡ at + length w + 1 = omega (arith, length-append w (x ∷ [])) in
    rw (at-text (at + length w) w x s e, ← z) (rw append_assoc at (k at (w ++ (x ∷ [])) (free-last x f e)))

from-spaced : (at : ℕ) (w s : List ℕ) → Free w → Spaced at (w ++ s) (words_from (at + length w) w s)
unfolding words_from
from-spaced at w [] f = ended-last at w f
from-spaced at w (x ∷ s) f = from-by at w x s (is_blank x) refl f (λ start v g. from-spaced start v s g)

spaced-texts : {at : ℕ} {s : List ℕ} {ws : List Word} → Spaced at s ws → Each (λ w. Text w.bytes) ws
spaced-texts (blanks h) = none
spaced-texts (last b w h t) = each t none
spaced-texts (next b w h t e k) = each t (spaced-texts k)

text-some : (w : List ℕ) → Text w → 1 ≤ length w
text-some [] t = absurd (t.some refl)
text-some (x ∷ w) t = omega arith

-- Each word has a byte of its own.
spaced-few : {at : ℕ} {s : List ℕ} {ws : List Word} → Spaced at s ws → length ws ≤ length s
spaced-few (blanks h) = omega arith
spaced-few (last b w h t) = omega (arith, length-append b w, text-some w t)
spaced-few (next b w {x = x} {s = s} h t e k) = omega (arith, length-append b (w ++ (x ∷ s)), length-append w (x ∷ s), text-some w t, spaced-few k)

-- a weaker property of each element
each-weaker : {A : Type 0} {P Q : A → Type 0} {l : List A} → ((a : A) → P a → Q a) → Each P l → Each Q l
each-weaker f none = none
each-weaker f (each {a = x} p h) = each (f x p) (each-weaker f h)

-- Each word ends inside the line.
abbrev Inside : ℕ → Word → Type 0
Inside end w = w.start + length w.bytes ≤ end

spaced-inside : {at : ℕ} {s : List ℕ} {ws : List Word} → Spaced at s ws → Each (Inside (at + length s)) ws
spaced-inside (blanks h) = none
spaced-inside (last b w h t) = each (omega (arith, length-append b w)) none
spaced-inside {at} (next b w {x = x} {s = s} h t e k) =
    each
    (omega (arith, length-append b (w ++ (x ∷ s)), length-append w (x ∷ s)))
    (each-weaker (λ v i. omega (arith, length-append b (w ++ (x ∷ s)), length-append w (x ∷ s))) (spaced-inside k))

module _ (at : ℕ) (s : List ℕ) where
  pub words-spaced : Spaced at s (words at s)
  unfolding words
  words-spaced = let z : at + 0 ≡ at = omega arith in rw z at (from-spaced at [] s none)

  -- No word is empty or has a blank.
  pub words-texts : Each (λ w. Text w.bytes) (words at s)
  words-texts = spaced-texts words-spaced

  -- There are no more words than bytes.
  pub words-few : length (words at s) ≤ length s
  words-few = spaced-few words-spaced

  -- Each ends inside the line.
  pub words-inside : Each (λ w. w.start + length w.bytes ≤ at + length s) (words at s)
  words-inside = spaced-inside words-spaced
