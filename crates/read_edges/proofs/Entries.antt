-- The definition judges an entry from left to right; these laws say what it answers, by its bytes.
use mathlib.Core.Path.{◌≡◌, refl, sym, ap, ◌∙◌}
use mathlib.Core.Bool.{Bool, true, false, cond, ◌&&◌}
use mathlib.Core.List.{List, [], ◌∷◌, ◌++◌}
use Prim.Native.Nat.{ℕ, ◌^◌}
use native.Mathlib.Omega.{arith}
use lib.ListN.{length, take, drop}
use lib.IntN.{ℤ}
use lib.Dec.{eqb}
use lib.Pointwise.{pointwise}
use borrow.Author.Tests.{eqb-true, eqb-false, ne_eqb, eq-eqb}
use Rattle.codes.specs.Answer.{Read, refused}
use Rattle.codes.specs.Bytes.{is_digit}
use Rattle.codes.proofs.Bytes.{digit-bounds}
use Rattle.read_lines.specs.Each.{none, each}
use Rattle.read_numbers.specs.declared.Role.TheVariants.{Magnitude}
use Rattle.read_numbers.specs.Value.{value_of, value_from}
use Rattle.read_numbers.specs.Digits.{Digits, PassesLimit, Foreign, DigitAnswers}
use Rattle.read_numbers.specs.Digits as digits
use Rattle.read_numbers.proofs.Digits.{digits-split, answers_number, number-answers}
use Rattle.read_edges.specs.Edges.{with_sign, magnitude_of, after_minus, entry_bytes}
use Rattle.read_edges.specs.Entries.{behind, EntryAnswers, reads, over, strange, second, inside, alone}

-- what an entry is by its first byte
module _ (x : ℕ) (d : List ℕ) where
  pub entry-plain : (x ≡ 45 → ⊥) → entry_bytes (x ∷ d) ≡ magnitude_of false (x ∷ d)
  unfolding entry_bytes
  entry-plain h = rw (ne_eqb x 45 h)

  pub entry-minus : x ≡ 45 → entry_bytes (x ∷ d) ≡ after_minus d
  unfolding entry_bytes
  entry-minus h = rw (eq-eqb x 45 h)

-- bytes that begin with no minus
abbrev Unsigned : List ℕ → Type 0
Unsigned d = (r : List ℕ) → d ≡ 45 ∷ r → ⊥

pub digit-no-minus : {x : ℕ} → is_digit x ≡ true → x ≡ 45 → ⊥
digit-no-minus {x} e z = omega (arith, digit-bounds x e)

digits-unsigned : {d : List ℕ} → Digits d → Unsigned d
digits-unsigned none r z = let y : ◌≡◌ {A = ℕ} 0 1 = cc in omega arith
digits-unsigned (each e k) r z = digit-no-minus e (cc)

-- So do digits with another byte behind them, which is no minus where there is no digit.
front-unsigned : {front : List ℕ} {y : ℕ} (rest : List ℕ) → Digits front → (front ≡ [] → y ≡ 45 → ⊥) → Unsigned (front ++ (y ∷ rest))
front-unsigned rest none h r z = h refl (cc)
front-unsigned rest (each e k) h r z = digit-no-minus e (cc)

passes-unsigned : {lim : ℕ} {d : List ℕ} → PassesLimit lim d → Unsigned d
passes-unsigned p =
    let s = digits-split p.front p.last p.digits in
    rw p.is (front-unsigned p.rest s.0 (λ z. digit-no-minus s.1))

foreign-unsigned : {lim : ℕ} {d : List ℕ} (f : Foreign lim d) → (f.front ≡ [] → f.byte ≡ 45 → ⊥) → Unsigned d
foreign-unsigned f h = rw f.is (front-unsigned f.rest f.digits h)

some_more : (front : List ℕ) (y : ℕ) (rest : List ℕ) → front ++ (y ∷ rest) ≡ [] → ⊥
some_more [] y rest z = let q : ◌≡◌ {A = ℕ} 0 1 = cc in omega arith
some_more (x ∷ front) y rest z = let q : ◌≡◌ {A = ℕ} 0 1 = cc in omega arith

-- Behind a minus or none stands a magnitude.
behind-entry : (minus : Bool) (d : List ℕ) → (d ≡ [] → ⊥) → Unsigned d → entry_bytes (behind minus d) ≡ magnitude_of minus d
behind-entry minus [] h u = absurd (h refl)
behind-entry true (x ∷ d) h u = entry-minus 45 (x ∷ d) refl
behind-entry false (x ∷ d) h u = entry-plain x d (λ z. u d (rw z))

minus-first : (rest : List ℕ) → Foreign (2 ^ 63) (45 ∷ rest)
unfolding value_of value_from is_digit
minus-first rest = record { front = []; byte = 45; rest = rest; is = refl; digits = none; small = omega arith; foreign = refl }

module _ {w : List ℕ} where
  by_digits : {r : Read ℕ} (minus : Bool) (d : List ℕ) → w ≡ behind minus d → (d ≡ [] → ⊥) → Unsigned d → DigitAnswers Magnitude (2 ^ 63) d r
      → entry_bytes w ≡ with_sign minus r
  by_digits minus d i h u a =
      let e = answers_number Magnitude (2 ^ 63) d a in
      rw i (behind-entry minus d h u ∙ ap (with_sign minus) e)

  -- What the bytes say is what is answered.
  pub answers-entry : {r : Read ℤ} → EntryAnswers w r → entry_bytes w ≡ r
  unfolding minus-first
  answers-entry (reads {minus = m} s) =
      by_digits m s.digits s.is s.some (digits-unsigned s.says.digits) (digits.reads s.says)
  answers-entry (over m {d = d} i p) =
      by_digits m d i (rw p.is (some_more p.front p.last p.rest)) (passes-unsigned p) (digits.over p)
  answers-entry (strange m {d = d} i f h) =
      by_digits m d i (rw f.is (some_more f.front f.byte f.rest)) (foreign-unsigned f (λ z. h)) (digits.strange f)
      ∙ rw (ne_eqb f.byte 45 h)
  answers-entry (inside m {d = d} i f s h) =
      by_digits m d i (rw f.is (some_more f.front f.byte f.rest)) (foreign-unsigned f (λ z. absurd (s z))) (digits.strange f)
      ∙ rw (eq-eqb f.byte 45 h)
  answers-entry (second rest i) =
      rw i (entry-minus 45 (45 ∷ rest) refl ∙ ap (with_sign true) (answers_number Magnitude (2 ^ 63) (45 ∷ rest) (digits.strange (minus-first rest))))
  answers-entry (alone i) = rw i (entry-minus 45 [] refl)

  -- The other way: every word has one of these answers, so each comes from such bytes and from no others.
  module _ (minus : Bool) (d : List ℕ) (i : w ≡ behind minus d) (some : d ≡ [] → ⊥) where
    foreign-answers : (f : Foreign (2 ^ 63) d) → (minus ≡ false → Unsigned d) → (b : Bool) → eqb f.byte 45 ≡ b
        → EntryAnswers w (refused (cond b 17 16))
    foreign-answers f u false e = strange minus i f (eqb-false _ _ e)
    foreign-answers f u true e = of minus i u f.front refl
      where
        of : (m : Bool) → w ≡ behind m d → (m ≡ false → Unsigned d) → (front : List ℕ) → f.front ≡ front → EntryAnswers w (refused 17)
        of true j v [] z = let y : f.byte ≡ 45 = eqb-true _ _ e in second f.rest (cc (f.is, j))
        of false j v [] z = let y : f.byte ≡ 45 = eqb-true _ _ e in absurd (v refl f.rest (cc f.is))
        of m j v (x ∷ front) z = inside m j f (λ q. let y : ◌≡◌ {A = ℕ} 0 1 = cc in omega arith) (eqb-true _ _ e)

    digits-answers : {r : Read ℕ} → (minus ≡ false → Unsigned d) → DigitAnswers Magnitude (2 ^ 63) d r → EntryAnswers w (with_sign minus r)
    digits-answers u (digits.reads s) = reads {minus = minus} (record { digits = d; is = i; some = some; says = s })
    digits-answers u (digits.over p) = over minus i p
    digits-answers u (digits.strange f) = foreign-answers f u (eqb f.byte 45) refl

    magnitude-answers : (minus ≡ false → Unsigned d) → EntryAnswers w (magnitude_of minus d)
    magnitude-answers u = digits-answers u (number-answers Magnitude (2 ^ 63) d (omega arith))

pub entry-answers : (w : List ℕ) → (w ≡ [] → ⊥) → EntryAnswers w (entry_bytes w)
entry-answers [] h = absurd (h refl)
entry-answers (x ∷ d) h = of (eqb x 45) refl d refl
  where
    of : (b : Bool) → eqb x 45 ≡ b → (e : List ℕ) → d ≡ e → EntryAnswers (x ∷ d) (entry_bytes (x ∷ d))
    of true q [] z = let k : x ≡ 45 = eqb-true _ _ q in rw (entry-minus x d k, z) (alone (cc))
    of true q (y ∷ e) z =
        let k : x ≡ 45 = eqb-true _ _ q in
        rw (entry-minus x d k, z) (magnitude-answers true (y ∷ e) (cc) (some_more [] y e) (λ t. absurd (let v : ◌≡◌ {A = ℕ} 0 1 = cc in omega arith)))
    of false q e z =
        let n : x ≡ 45 → ⊥ = eqb-false _ _ q in
        rw (entry-plain x d n) (magnitude-answers false (x ∷ d) refl (some_more [] x d) (λ k r v. n (cc)))

-- An entry as the code takes it apart: with a minus in front or none, and whether a byte follows.
alone-true : (b : Bool) → b && true ≡ b
alone-true true = refl
alone-true false = refl

pub begins-plain : (w : List ℕ) → pointwise eqb (take 1 w) (45 ∷ []) ≡ false → entry_bytes w ≡ magnitude_of false w
unfolding entry_bytes
begins-plain [] h = refl
begins-plain (x ∷ d) h = let k : eqb x 45 ≡ false = sym (alone-true (eqb x 45)) ∙ h in rw k

begins : (w : List ℕ) → pointwise eqb (take 1 w) (45 ∷ []) ≡ true → entry_bytes w ≡ after_minus (drop 1 w)
unfolding entry_bytes
begins [] h = absurd (let z : ◌≡◌ {A = ℕ} 0 1 = cc in omega arith)
begins (x ∷ d) h = let k : eqb x 45 ≡ true = sym (alone-true (eqb x 45)) ∙ h in rw k

module _ (w d : List ℕ) (h : pointwise eqb (take 1 w) (45 ∷ []) ≡ true) (e : d ≡ drop 1 w) where
  behind_minus : entry_bytes w ≡ after_minus d
  behind_minus = rw e (begins w h)

  pub begins-alone : length d ≡ 0 → entry_bytes w ≡ refused 17
  begins-alone k = behind_minus ∙ of d k
    where
      of : (d : List ℕ) → length d ≡ 0 → after_minus d ≡ refused 17
      of [] k = refl
      of (x ∷ d) k = absurd (omega arith)

  pub begins-minus : (length d ≡ 0 → ⊥) → entry_bytes w ≡ magnitude_of true d
  begins-minus k = behind_minus ∙ of d k
    where
      of : (d : List ℕ) → (length d ≡ 0 → ⊥) → after_minus d ≡ magnitude_of true d
      of [] k = absurd (k refl)
      of (x ∷ d) k = refl
