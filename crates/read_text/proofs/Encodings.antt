-- `is_utf8` takes the encodings of lists of characters (`utf8-sound`), and nothing else (`utf8-complete`).
use mathlib.Core.Path.{◌≡◌, refl, ap, ◌∙◌}
use mathlib.Core.Logic.{inl, inr, ⊎_elim}
use mathlib.Core.Bool.{Bool, true, false}
use mathlib.Core.List.{List, [], ◌∷◌, ◌++◌}
use Prim.Native.Nat.{ℕ, zero, suc, ◌+◌, ◌-◌, ◌*◌, ◌/◌, ◌≤◌, ◌<◌}
use native.Mathlib.Omega.{arith}
use lib.ListN.{length}
use lib.Dec.{ltb}
use borrow.Author.Tests.{ltb-true, ltb-false, lt-ltb, le-ltb}
use Rattle.codes.specs.Machine.{go, stop, run}
use Rattle.codes.proofs.Machine.{Leads, here, on, leads-run}
use Rattle.read_text.specs.declared.Utf8.{Utf8}
use Rattle.read_text.specs.declared.Utf8.TheVariants.{Whole, Tail}
use Rattle.read_text.specs.Text.{tail, utf8_next, utf8_end, is_utf8}
use Rattle.read_text.specs.Utf8.{Scalar, Scalars, follow, encode, encoded, Decoded}
use Rattle.read_text.proofs.Texts.{lead-one, lead-lone, lead-two, lead-e0, lead-ed, lead-three, lead-f0, lead-four, lead-f4, lead_high, tail-low, tail-high, tail-in}

-- a number is below a bound or not
split : {X : Type 0} (a b : ℕ) → (a < b → X) → (b ≤ a → X) → X
split {X} a b f g = by (ltb a b) refl
  where
    by : (t : Bool) → ltb a b ≡ t → X
    by true e = f (ltb-true a b e)
    by false e = g (ltb-false a b e)

-- the rows of RFC 3629's table
module _ (c : ℕ) where
  encode_one : c < 0x80 → encode c ≡ c ∷ []
  unfolding encode
  encode_one h = simp (lt-ltb c 0x80 h)

  encode-two : 0x80 ≤ c → c < 0x800 → encode c ≡ (0xc0 + c / 0x40) ∷ (follow c ∷ [])
  unfolding encode
  encode-two a h = simp (le-ltb c 0x80 a, lt-ltb c 0x800 h)

  encode-three : 0x800 ≤ c → c < 0x10000 → encode c ≡ (0xe0 + c / 0x1000) ∷ (follow (c / 0x40) ∷ (follow c ∷ []))
  unfolding encode
  encode-three a h = simp (le-ltb c 0x80 (omega arith), le-ltb c 0x800 a, lt-ltb c 0x10000 h)

  encode-four : 0x10000 ≤ c → encode c ≡ (0xf0 + c / 0x40000) ∷ (follow (c / 0x1000) ∷ (follow (c / 0x40) ∷ (follow c ∷ [])))
  unfolding encode
  encode-four a = simp (le-ltb c 0x80 (omega arith), le-ltb c 0x800 (omega arith), le-ltb c 0x10000 a)

-- Bytes that lead from one character's end to the next one's: by what the first byte asks of the second, and so by the rows of the
-- Unicode Standard's table 3-7.
abbrev Character : List ℕ → Type 0
Character w = Leads utf8_next utf8_end Whole w Whole

follow-low : (n : ℕ) → 0x80 ≤ follow n
follow-low n = omega arith

follow-high : (n : ℕ) → follow n ≤ 0xbf
follow-high n = omega arith

module _ {lo hi : ℕ} (a b : ℕ) (l : lo ≤ b) (h : b ≤ hi) where
  of_two : utf8_next Whole a ≡ go (Tail 0 lo hi) → Character (a ∷ (b ∷ []))
  of_two e = on e (on (tail-in 0 lo hi b l h) here)

  of_three : (n : ℕ) → utf8_next Whole a ≡ go (Tail 1 lo hi) → Character (a ∷ (b ∷ (follow n ∷ [])))
  of_three n e = on e (on (tail-in 1 lo hi b l h) (on (tail-in 0 0x80 0xbf _ (follow-low n) (follow-high n)) here))

  of_four : (m n : ℕ) → utf8_next Whole a ≡ go (Tail 2 lo hi) → Character (a ∷ (b ∷ (follow m ∷ (follow n ∷ []))))
  of_four m n e =
      on e (on (tail-in 2 lo hi b l h) (on (tail-in 1 0x80 0xbf _ (follow-low m) (follow-high m)) (on (tail-in 0 0x80 0xbf _ (follow-low n) (follow-high n)) here)))

module _ (c : ℕ) where
  char-one : c < 0x80 → Character (encode c)
  char-one h = rw (encode_one c h) (on (lead-one c h) here)

  char-two : 0x80 ≤ c → c < 0x800 → Character (encode c)
  char-two l h =
      rw (encode-two c l h)
      (of_two (0xc0 + c / 0x40) (follow c) (follow-low c) (follow-high c) (lead-two (0xc0 + c / 0x40) (omega arith) (omega arith)))

  module _ {lo hi : ℕ} where
    char-three :
        utf8_next Whole (0xe0 + c / 0x1000) ≡ go (Tail 1 lo hi) → 0x800 ≤ c → c < 0x10000
        → lo ≤ follow (c / 0x40) → follow (c / 0x40) ≤ hi → Character (encode c)
    char-three row l h i j = rw (encode-three c l h) (of_three (0xe0 + c / 0x1000) (follow (c / 0x40)) i j c row)

    char-four :
        utf8_next Whole (0xf0 + c / 0x40000) ≡ go (Tail 2 lo hi) → 0x10000 ≤ c
        → lo ≤ follow (c / 0x1000) → follow (c / 0x1000) ≤ hi → Character (encode c)
    char-four row l i j = rw (encode-four c l) (of_four (0xf0 + c / 0x40000) (follow (c / 0x1000)) i j (c / 0x40) c row)

  char-e0 : 0x800 ≤ c → c < 0x1000 → Character (encode c)
  char-e0 l h = char-three (lead-e0 (0xe0 + c / 0x1000) (omega arith)) l (omega arith) (omega arith) (omega arith)

  char-e1 : 0x1000 ≤ c → c < 0xd000 → Character (encode c)
  char-e1 l h =
      char-three (lead-three (0xe0 + c / 0x1000) (omega arith) (λ x. omega arith) (λ x. omega arith) (omega arith)) (omega arith)
      (omega arith) (omega arith) (omega arith)

  char-ed : 0xd000 ≤ c → c < 0xd800 → Character (encode c)
  char-ed l h = char-three (lead-ed (0xe0 + c / 0x1000) (omega arith)) (omega arith) (omega arith) (omega arith) (omega arith)

  char-ee : 0xe000 ≤ c → c < 0x10000 → Character (encode c)
  char-ee l h =
      char-three (lead-three (0xe0 + c / 0x1000) (omega arith) (λ x. omega arith) (λ x. omega arith) (omega arith)) (omega arith) h
      (omega arith) (omega arith)

  char-f0 : 0x10000 ≤ c → c < 0x40000 → Character (encode c)
  char-f0 l h = char-four (lead-f0 (0xf0 + c / 0x40000) (omega arith)) l (omega arith) (omega arith)

  char-f1 : 0x40000 ≤ c → c < 0x100000 → Character (encode c)
  char-f1 l h = char-four (lead-four (0xf0 + c / 0x40000) (omega arith) (omega arith)) (omega arith) (omega arith) (omega arith)

  char-f4 : 0x100000 ≤ c → c < 0x110000 → Character (encode c)
  char-f4 l h = char-four (lead-f4 (0xf0 + c / 0x40000) (omega arith)) (omega arith) (omega arith) (omega arith)

  char-low : c < 0xd800 → Character (encode c)
  char-low h =
      split c 0x80 char-one (λ two.
      split c 0x800 (char-two two) (λ three.
      split c 0x1000 (char-e0 three) (λ e1.
      split c 0xd000 (char-e1 e1) (λ ed. char-ed ed h))))

  char-high : 0xe000 ≤ c → c < 0x110000 → Character (encode c)
  char-high l h =
      split c 0x10000 (char-ee l) (λ f0.
      split c 0x40000 (char-f0 f0) (λ f1.
      split c 0x100000 (char-f1 f1) (λ f4. char-f4 f4 h)))

  scalar-character : Scalar c → Character (encode c)
  scalar-character s = ⊎_elim char-low (λ p. char-high p.0 p.1) s

encoded-run : (cs : List ℕ) → Scalars cs → run utf8_next utf8_end Whole (encoded cs) ≡ true
unfolding encoded run
encoded-run [] s = refl
encoded-run (c ∷ cs) s = leads-run utf8_next utf8_end (encoded cs) (scalar-character c s.0) ∙ encoded-run cs s.1

-- Every list of characters is encoded as a text that `is_utf8` takes.
pub utf8-sound : (cs : List ℕ) → Scalars cs → is_utf8 (encoded cs) ≡ true
unfolding is_utf8
utf8-sound cs s = encoded-run cs s

-- From here on the other way: a text that `is_utf8` takes is taken apart, character by character.
record Taken (t : Utf8) (s : List ℕ) : Type 0 where
  ends : run utf8_next utf8_end t s ≡ true

goes : {t u : Utf8} {x : ℕ} {s : List ℕ} → utf8_next t x ≡ go u → Taken t (x ∷ s) → Taken u s
unfolding run
goes g e = record { ends = rw g at e.ends }

stops : {X : Type 0} {t : Utf8} {x : ℕ} {s : List ℕ} → utf8_next t x ≡ stop false → Taken t (x ∷ s) → X
unfolding run
stops g e =
    let f : false ≡ true = rw g at e.ends in
    let z : ◌≡◌ {A = ℕ} 0 1 = cc in absurd (omega arith)

-- a text where a begun character waits for a byte
record Follows (n lo hi : ℕ) (s : List ℕ) : Type 0 where
  byte : ℕ
  rest : List ℕ
  is : s ≡ byte ∷ rest
  low : lo ≤ byte
  high : byte ≤ hi
  shorter : length rest ≤ length s
  taken : Taken (tail n) rest

follows : {n lo hi : ℕ} (s : List ℕ) → Taken (Tail n lo hi) s → Follows n lo hi s
unfolding run
follows [] e = let f : false ≡ true = e.ends in let z : ◌≡◌ {A = ℕ} 0 1 = cc in absurd (omega arith)
follows {n} {lo} {hi} (b ∷ s) e =
    split b lo (λ l. stops (tail-low n lo hi b l) e) (λ l. split hi b (λ h. stops (tail-high n lo hi b l h) e) (λ h. record {
      byte = b;
      rest = s;
      is = refl;
      low = l;
      high = h;
      shorter = omega arith;
      taken = goes (tail-in n lo hi b l h) e;
    }))

-- one more character in front
decoded-more : {w s r : List ℕ} (c : ℕ) → Scalar c → encode c ≡ w → s ≡ w ++ r → Decoded r → Decoded s
unfolding encoded
decoded-more c k e p d = record { characters = c ∷ d.characters; scalars = (k, d.scalars); bytes = p ∙ rw (e, d.bytes) }

-- the number that the bytes of a character hold
abbrev number-two : ℕ → ℕ → ℕ
number-two a b = (a - 0xc0) * 0x40 + (b - 0x80)

abbrev number-three : ℕ → ℕ → ℕ → ℕ
number-three a b d = (a - 0xe0) * 0x1000 + ((b - 0x80) * 0x40 + (d - 0x80))

abbrev number-four : ℕ → ℕ → ℕ → ℕ → ℕ
number-four a b d f = (a - 0xf0) * 0x40000 + ((b - 0x80) * 0x1000 + ((d - 0x80) * 0x40 + (f - 0x80)))

-- a byte that may follow
record Following (b : ℕ) : Type 0 where
  low : 0x80 ≤ b
  high : b ≤ 0xbf

module _ (a b : ℕ) (fb : Following b) where
  two_bytes : (c : ℕ) → c ≡ number-two a b → 0xc2 ≤ a → a < 0xe0 → encode c ≡ a ∷ (b ∷ [])
  two_bytes c v i j =
      let p : 0xc0 + c / 0x40 ≡ a = omega arith in
      let q : follow c ≡ b = omega arith in encode-two c (omega arith) (omega arith) ∙ rw (p, q)

  module _ (d : ℕ) (fd : Following d) where
    three-bytes : (c : ℕ) → c ≡ number-three a b d → 0xe0 ≤ a → 0x800 ≤ c → c < 0x10000 → encode c ≡ a ∷ (b ∷ (d ∷ []))
    three-bytes c v i l h =
        let p : 0xe0 + c / 0x1000 ≡ a = omega arith in
        let q : follow (c / 0x40) ≡ b = omega arith in
        let r : follow c ≡ d = omega arith in encode-three c l h ∙ rw (p, q, r)

    four_bytes : (f : ℕ) → Following f → (c : ℕ) → c ≡ number-four a b d f → 0xf0 ≤ a → 0x10000 ≤ c → encode c ≡ a ∷ (b ∷ (d ∷ (f ∷ [])))
    four_bytes f ff c v i l =
        let p : 0xf0 + c / 0x40000 ≡ a = omega arith in
        let q : follow (c / 0x1000) ≡ b = omega arith in
        let r : follow (c / 0x40) ≡ d = omega arith in
        let s : follow c ≡ f = omega arith in encode-four c l ∙ rw (p, q, r, s)

-- A text with a first byte, by the byte's row of table 3-7, where every shorter text is taken apart already.
module _ (a : ℕ) (s : List ℕ) (e : Taken Whole (a ∷ s)) (shorter : (r : List ℕ) → length r ≤ length s → Taken Whole r → Decoded r) where
  from_one : a < 0x80 → Decoded (a ∷ s)
  from_one h = decoded-more a (inl (omega arith)) (encode_one a h) refl (shorter s (omega arith) (goes (lead-one a h) e))

  from-two : 0xc2 ≤ a → a < 0xe0 → Decoded (a ∷ s)
  from-two i j =
      let f = follows s (goes (lead-two a i j) e) in
      let fb : Following f.byte = record { low = f.low; high = f.high } in
      decoded-more (number-two a f.byte) (inl (omega arith)) (two_bytes a f.byte fb _ refl i j)
      (ap (λ r. a ∷ r) f.is) (shorter f.rest f.shorter f.taken)

  -- The row's range of second bytes tells that the number has no shorter form and is a character.
  module _ {lo hi : ℕ} (l : 0x80 ≤ lo) (h : hi ≤ 0xbf) where
    from-three :
        utf8_next Whole a ≡ go (Tail 1 lo hi) → 0xe0 ≤ a → a < 0xf0
        → ((b c : ℕ) → lo ≤ b → b ≤ hi → number-three a b 0x80 ≤ c → c ≤ number-three a b 0xbf → (0x800 ≤ c) × Scalar c)
        → Decoded (a ∷ s)
    from-three row i j good =
        let f = follows s (goes row e) in
        let g = follows f.rest f.taken in
        let fb : Following f.byte = record { low = omega (arith, f.low); high = omega (arith, f.high) } in
        let fd : Following g.byte = record { low = g.low; high = g.high } in
        let k = good f.byte (number-three a f.byte g.byte) f.low f.high (omega arith) (omega arith) in
        decoded-more (number-three a f.byte g.byte) k.1 (three-bytes a f.byte fb g.byte fd _ refl i k.0 (omega arith))
        (ap (λ r. a ∷ r) (f.is ∙ ap (λ r. f.byte ∷ r) g.is))
        (shorter g.rest (omega (arith, f.shorter, g.shorter)) g.taken)

    from-four :
        utf8_next Whole a ≡ go (Tail 2 lo hi) → 0xf0 ≤ a
        → ((b c : ℕ) → lo ≤ b → b ≤ hi → number-four a b 0x80 0x80 ≤ c → c ≤ number-four a b 0xbf 0xbf → (0x10000 ≤ c) × (c < 0x110000))
        → Decoded (a ∷ s)
    from-four row i good =
        let f = follows s (goes row e) in
        let g = follows f.rest f.taken in
        let m = follows g.rest g.taken in
        let fb : Following f.byte = record { low = omega (arith, f.low); high = omega (arith, f.high) } in
        let fd : Following g.byte = record { low = g.low; high = g.high } in
        let fm : Following m.byte = record { low = m.low; high = m.high } in
        let k = good f.byte (number-four a f.byte g.byte m.byte) f.low f.high (omega arith) (omega arith) in
        decoded-more (number-four a f.byte g.byte m.byte) (inr (omega (arith, k.0), k.1))
        (four_bytes a f.byte fb g.byte fd m.byte fm _ refl i k.0)
        (ap (λ r. a ∷ r) (f.is ∙ ap (λ r. f.byte ∷ r) (g.is ∙ ap (λ r. g.byte ∷ r) m.is)))
        (shorter m.rest (omega (arith, f.shorter, g.shorter, m.shorter)) m.taken)

  from-e0 : a ≡ 0xe0 → Decoded (a ∷ s)
  from-e0 x = from-three (omega arith) (omega arith) (lead-e0 a x) (omega arith) (omega arith) (λ b c l h p q. (omega arith, inl (omega arith)))

  from-e1 : 0xe1 ≤ a → a < 0xed → Decoded (a ∷ s)
  from-e1 i j =
      from-three (omega arith) (omega arith) (lead-three a (omega arith) (λ x. omega arith) (λ x. omega arith) (omega arith)) (omega arith) (omega arith)
      (λ b c l h p q. (omega arith, inl (omega arith)))

  from-ed : a ≡ 0xed → Decoded (a ∷ s)
  from-ed x = from-three (omega arith) (omega arith) (lead-ed a x) (omega arith) (omega arith) (λ b c l h p q. (omega arith, inl (omega arith)))

  from-ee : 0xee ≤ a → a < 0xf0 → Decoded (a ∷ s)
  from-ee i j =
      from-three (omega arith) (omega arith) (lead-three a (omega arith) (λ x. omega arith) (λ x. omega arith) j) (omega arith) j
      (λ b c l h p q. (omega arith, inr (omega arith, omega arith)))

  from-f0 : a ≡ 0xf0 → Decoded (a ∷ s)
  from-f0 x = from-four (omega arith) (omega arith) (lead-f0 a x) (omega arith) (λ b c l h p q. (omega arith, omega arith))

  from-f1 : 0xf0 < a → a < 0xf4 → Decoded (a ∷ s)
  from-f1 i j = from-four (omega arith) (omega arith) (lead-four a i j) (omega arith) (λ b c l h p q. (omega arith, omega arith))

  from-f4 : a ≡ 0xf4 → Decoded (a ∷ s)
  from-f4 x = from-four (omega arith) (omega arith) (lead-f4 a x) (omega arith) (λ b c l h p q. (omega arith, omega arith))

  from-any : Decoded (a ∷ s)
  from-any =
      split a 0x80 from_one (λ x80.
      split a 0xc2 (λ x. stops (lead-lone a x80 x) e) (λ xc2.
      split a 0xe0 (from-two xc2) (λ xe0.
      split a 0xe1 (λ x. from-e0 (omega arith)) (λ xe1.
      split a 0xed (from-e1 xe1) (λ xed.
      split a 0xee (λ x. from-ed (omega arith)) (λ xee.
      split a 0xf0 (from-ee xee) (λ xf0.
      split a 0xf1 (λ x. from-f0 (omega arith)) (λ xf1.
      split a 0xf4 (from-f1 xf1) (λ xf4.
      split a 0xf5 (λ x. from-f4 (omega arith)) (λ xf5. stops (lead_high a xf5) e))))))))))

from-none : Decoded []
unfolding encoded
from-none = record { characters = []; scalars = tt; bytes = refl }

-- by a bound of the length, since a character takes up to four bytes at once
taken-decoded : (k : ℕ) (s : List ℕ) → length s ≤ k → Taken Whole s → Decoded s
taken-decoded zero [] h e = from-none
taken-decoded zero (a ∷ s) h e = absurd (omega arith)
taken-decoded (suc k) [] h e = from-none
taken-decoded (suc k) (a ∷ s) h e = from-any a s e (λ r l t. taken-decoded k r (omega arith) t)

-- Every text that `is_utf8` takes is the encoding of a list of characters: no overlong form, no surrogate, nothing above U+10FFFF.
pub utf8-complete : (s : List ℕ) → is_utf8 s ≡ true → Decoded s
unfolding is_utf8
utf8-complete s e = taken-decoded (length s) s (omega arith) (record { ends = e })
