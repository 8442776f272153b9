-- A text that is UTF-8 stays so without the blanks at its ends.
use mathlib.Core.Path.{◌≡◌, refl}
use mathlib.Core.Bool.{Bool, true, false, cond, ◌&&◌, ◌||◌}
use mathlib.Core.List.{List, [], ◌∷◌}
use Prim.Native.Nat.{ℕ, zero, suc, ◌≤◌, ◌<◌}
use native.Mathlib.Omega.{arith}
use lib.Dec.{ltb, leb, eqb}
use borrow.Author.Tests.{eqb-true}
use Rattle.codes.specs.Bytes.{is_blank}
use Rattle.codes.specs.Machine.{Next, go, stop, after, run}
use Rattle.read_text.specs.declared.Utf8.{Utf8}
use Rattle.read_text.specs.declared.Utf8.TheVariants.{Whole, Tail}
use Rattle.read_text.specs.Text.{lead, tail, utf8_next, utf8_end, is_utf8}
use Rattle.read_text.proofs.Texts.{lead-one, tail-low}
use Rattle.reading_header.specs.Joined.{without_front, kept, without_back, trimmed}

-- a blank is a character by itself
blank-low : (b : ℕ) → is_blank b ≡ true → b < 0x80
unfolding is_blank
blank-low b h = by (eqb b 32) (eqb b 9) refl refl h
  where
    by : (p q : Bool) → eqb b 32 ≡ p → eqb b 9 ≡ q → (p || q) ≡ true → b < 0x80
    by true q e f g = omega (arith, eqb-true b 32 e)
    by false true e f g = omega (arith, eqb-true b 9 f)
    by false false e f g = absurd (let z : ◌≡◌ {A = ℕ} 0 1 = cc in omega arith)

-- Inside a character no blank may follow: the bytes awaited are 80 and above. A step leads to such a state, or stops at a fault.
data High : Utf8 → Type 0 where
  whole : High Whole
  awaits : {n lo hi : ℕ} → 0x80 ≤ lo → High (Tail n lo hi)

data HighNext : Next Utf8 Bool → Type 0 where
  goes : {t : Utf8} → High t → HighNext (go t)
  stops : HighNext (stop false)

either : {p q : Next Utf8 Bool} (b : Bool) → HighNext p → HighNext q → HighNext (cond b p q)
either true h k = h
either false h k = k

lead_high : (x : ℕ) → HighNext (lead x)
lead_high x =
    either (ltb x 0x80) (goes whole)
    (either (ltb x 0xc2) stops
    (either (ltb x 0xe0) (goes (awaits (omega arith)))
    (either (eqb x 0xe0) (goes (awaits (omega arith)))
    (either (eqb x 0xed) (goes (awaits (omega arith)))
    (either (ltb x 0xf0) (goes (awaits (omega arith)))
    (either (eqb x 0xf0) (goes (awaits (omega arith)))
    (either (ltb x 0xf4) (goes (awaits (omega arith)))
    (either (eqb x 0xf4) (goes (awaits (omega arith))) stops))))))))

tail-high : (n : ℕ) → High (tail n)
tail-high zero = whole
tail-high (suc n) = awaits {lo = 0x80} (omega arith)

next-high : {t : Utf8} (x : ℕ) → High t → HighNext (utf8_next t x)
unfolding utf8_next
next-high x whole = lead_high x
next-high x (awaits {n = n} {lo = lo} {hi = hi} h) = either (leb lo x && leb x hi) (goes (tail-high n)) stops

abbrev runs : Utf8 → List ℕ → Bool
runs t s = run utf8_next utf8_end t s

-- The end of a text may lose its blanks: a byte, before what is left of the bytes after it,
kept-taken : {t u : Utf8} (b : ℕ) (s : List ℕ) → High t → utf8_next t b ≡ go u → runs u s ≡ true → runs t (kept b s) ≡ true
unfolding run
kept-taken {t} {u} b [] h g e = by (is_blank b) refl h g
  where
    by : {t : Utf8} (c : Bool) → is_blank b ≡ c → High t → utf8_next t b ≡ go u → runs t (cond c [] (b ∷ [])) ≡ true
    by true c whole g = refl
    by true c (awaits {n = n} {lo = lo} {hi = hi} k) g =
        let l : utf8_next (Tail n lo hi) b ≡ stop false = tail-low n lo hi b (omega (arith, blank-low b c)) in
        absurd (let z : ◌≡◌ {A = ℕ} 0 1 = cc in omega arith)
    by false c h g = rw g e
kept-taken b (c ∷ s) h g e = rw g e

back-taken : {t : Utf8} (s : List ℕ) → High t → runs t s ≡ true → runs t (without_back s) ≡ true
unfolding run without_back
back-taken [] h e = e
back-taken {t} (b ∷ s) h e = by (utf8_next t b) refl (next-high b h) e (λ u k. back-taken s k)
  where
    by : (n : Next Utf8 Bool) → utf8_next t b ≡ n → HighNext n → after n (λ u. runs u s) ≡ true
        → ((u : Utf8) → High u → runs u s ≡ true → runs u (without_back s) ≡ true) → runs t (kept b (without_back s)) ≡ true
    by (go u) g (goes k) f shorter = kept-taken b (without_back s) h g (shorter u k f)
    by (stop true) g w f shorter = elim w [ ]
    by (stop false) g stops f shorter = absurd (let z : ◌≡◌ {A = ℕ} 0 1 = cc in omega arith)

-- and so may its front.
front-taken : (s : List ℕ) → runs Whole s ≡ true → runs Whole (without_front s) ≡ true
unfolding run without_front
front-taken [] e = e
front-taken (b ∷ s) e = by (is_blank b) refl (front-taken s)
  where
    by : (c : Bool) → is_blank b ≡ c → (runs Whole s ≡ true → runs Whole (without_front s) ≡ true) → runs Whole (cond c (without_front s) (b ∷ s)) ≡ true
    by true c shorter = shorter (rw (lead-one b (blank-low b c)) at e)
    by false c shorter = e

pub trimmed-utf8 : (s : List ℕ) → is_utf8 s ≡ true → is_utf8 (trimmed s) ≡ true
unfolding is_utf8 trimmed
trimmed-utf8 s e = back-taken (without_front s) whole (front-taken s e)
