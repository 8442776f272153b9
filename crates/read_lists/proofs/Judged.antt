-- The definition judges the words of a list from left to right; these laws say what comes of it.
use mathlib.Core.Path.{◌≡◌, refl, sym, ap, subst, ◌∙◌}
use mathlib.Core.Bool.{Bool, true, false}
use mathlib.Core.List.{List, [], ◌∷◌, ◌++◌, map, append_assoc, append-nil}
use Prim.Native.Nat.{ℕ, ◌≤◌, ◌<◌, ◌^◌}
use native.Mathlib.Omega.{arith}
use lib.ListN.{length, length-append, length-map}
use lib.Dec.{ltb}
use borrow.Author.Tests.{ltb-true, ltb-false}
use Rattle.codes.specs.Answer.{Read, value, refused}
use Rattle.read_lines.specs.Words.{Word, words}
use Rattle.read_lists.specs.Lists.{Listed, listed, judged, judge, u32_of, u32_list}
use Rattle.read_lines.specs.Each.{Each, each}
use Rattle.read_numbers.specs.declared.Role.TheVariants.{Entry}
use Rattle.read_numbers.specs.Digits.{DigitAnswers}
use Rattle.read_numbers.specs.Digits
use Rattle.read_lists.specs.Judged.{Reads, none, more, Judged, whole, fault, full, Numeral, numeral, Numerals, over, strange}
use Rattle.read_lists.specs.Judged as said
use Rattle.read_lists.proofs.Another.{another-more, another-full}
use Rattle.read_numbers.proofs.Digits.{number-answers, answers_number, number-exact}

module _ {A : Type 0} (read : Word → Read A) (max : ℕ) where
  -- Words that are entries are judged as far.
  judge-front : {front : List Word} {fs : List A} (es : List A) (rest : List Word) → Reads read front fs → length (es ++ fs) ≤ max
      → judge read max es (front ++ rest) ≡ judge read max (es ++ fs) rest
  unfolding judge
  judge-front es rest none h = rw append-nil
  judge-front es rest (more {ws = ws} {a = a} {fs = fs} e k) h =
      let l : length es < max = omega (arith, length-append es (a ∷ fs)) in
      let s : length ((es ++ (a ∷ [])) ++ fs) ≤ max = rw append_assoc h in
      rw e (another-more max es a (λ gs. judge read max gs (ws ++ rest)) (listed (refused 19)) l ∙ judge-front (es ++ (a ∷ [])) rest k s ∙ rw append_assoc)

  module _ (es : List A) (ws : List Word) where
    pub judged-judge : {r : Listed A} → Judged read max es ws r → judge read max es ws ≡ r
    unfolding judge
    judged-judge (whole k h) = ap (λ l. judge read max es l) (sym (append-nil ws)) ∙ judge-front es [] k h
    judged-judge (fault front w rest i k h e) = rw i (judge-front es (w ∷ rest) k h ∙ rw e)
    judged-judge (full {fs = fs} {a = a} front w rest i k h e) =
        rw i (judge-front es (w ∷ rest) k (omega arith) ∙ rw e (another-full max (es ++ fs) a (λ gs. judge read max gs rest) (listed (refused 19)) (omega arith)))

  -- one more entry in front
  judged-more : {es : List A} {w : Word} {ws : List Word} {a : A} {r : Listed A} → read w ≡ value a → Judged read max (es ++ (a ∷ [])) ws r
      → Judged read max es (w ∷ ws) r
  judged-more e (whole k h) = rw append_assoc (whole (more e k) (rw append_assoc at h))
  judged-more {w = v} e (fault front w rest i k h f) = rw append_assoc (fault (v ∷ front) w rest (rw i) (more e k) (rw append_assoc at h) f)
  judged-more {w = v} e (full front w rest i k h f) = rw append_assoc (full (v ∷ front) w rest (rw i) (more e k) (rw append_assoc at h) f)

  module _ (es : List A) where
    none_more : es ++ [] ≡ es
    none_more = append-nil es

    judged-whole : length es ≤ max → Judged read max es [] (listed (value (length es)) es)
    judged-whole h =
        subst (λ (fs : List A). Judged read max es [] (listed (value (length fs)) fs)) none_more (whole none (rw none_more h))

    module _ (w : Word) (ws : List Word) where
      judged-fault : {n : ℕ} → length es ≤ max → read w ≡ refused n → Judged read max es (w ∷ ws) (listed (refused n) es)
      judged-fault {n} h e =
          subst (λ (fs : List A). Judged read max es (w ∷ ws) (listed (refused n) fs)) none_more (fault [] w ws refl none (rw none_more h) e)

      judged-full : {a : A} → length es ≡ max → read w ≡ value a → Judged read max es (w ∷ ws) (listed (refused 19) es)
      judged-full h e =
          subst (λ (fs : List A). Judged read max es (w ∷ ws) (listed (refused 19) fs)) none_more (full [] w ws refl none (rw none_more h) e)

      judged-by : length es ≤ max → (r : Read A) → read w ≡ r → (b : Bool) → ltb (length es) max ≡ b
          → ((fs : List A) → length fs ≤ max → Judged read max fs ws (judge read max fs ws))
          → Judged read max es (w ∷ ws) (judged max es r (λ fs. judge read max fs ws))
      judged-by h (value a) e true t k =
          rw (another-more max es a (λ gs. judge read max gs ws) (listed (refused 19)) (ltb-true _ _ t)) (judged-more e (k (es ++ (a ∷ [])) (omega (arith, length-append es (a ∷ []), ltb-true))))
      judged-by h (value a) e false t k = rw (another-full max es a (λ gs. judge read max gs ws) (listed (refused 19)) (ltb-false _ _ t)) (judged-full (omega (arith, ltb-false)) e)
      judged-by h (refused n) e b t k = judged-fault h e

  -- Every word that is read is an entry.
  pub reads-length : {ws : List Word} {fs : List A} → Reads read ws fs → length fs ≡ length ws
  reads-length none = refl
  reads-length (more e k) = cc (reads-length k)

  -- A limit that no word passes isn't met: 19 would be a fault of an entry.
  pub few-judged : {ws : List Word} {r : Listed A} → length ws ≤ max → ((w : Word) → read w ≡ refused 19 → ⊥) → Judged read max [] ws r
      → r.answer ≡ refused 19 → ⊥
  few-judged h never (whole k l) e = let z : ◌≡◌ {A = ℕ} 0 1 = cc in omega arith
  few-judged h never (fault {n = n} front w rest i k l f) e = let z : n ≡ 19 = cc in never w (rw z at f)
  few-judged h never (full front w rest i k l f) e = omega (arith, reads-length k, ap length i, length-append front (w ∷ rest))

  pub judge-judged : (es : List A) (ws : List Word) → length es ≤ max → Judged read max es ws (judge read max es ws)
  unfolding judge
  judge-judged es [] h = judged-whole es h
  judge-judged es (w ∷ ws) h = judged-by es w ws h (read w) refl (ltb (length es) max) refl (λ fs l. judge-judged fs ws l)

-- Lists of unsigned numbers.
numeral_reads : (w : Word) → Numeral w → u32_of w ≡ value (numeral w)
numeral_reads w n = answers_number Entry (2 ^ 32) w.bytes (Digits.reads (record { digits = n.digits; value = refl; small = n.small }))

reads-numeral : (w : Word) {v : ℕ} → u32_of w ≡ value v → Numeral w × (v ≡ numeral w)
reads-numeral w e =
    let s = number-exact Entry (2 ^ 32) w.bytes (omega arith) e in
    (record { digits = s.digits; small = rw s.value s.small }, sym s.value)

numerals-read : {ws : List Word} → Each Numeral ws → Reads u32_of ws (map numeral ws)
numerals-read Each.none = none
numerals-read (each {a = w} n k) = more (numeral_reads w n) (numerals-read k)

read-numerals : {ws : List Word} {fs : List ℕ} → Reads u32_of ws fs → Each Numeral ws × (fs ≡ map numeral ws)
read-numerals none = (Each.none, refl)
read-numerals (more {w = w} e k) =
    let n = reads-numeral w e in
    let r = read-numerals k in (each n.0 r.0, cc (n.1, r.1))

module _ (max : ℕ) where
  numerals-judged : {ws : List Word} {r : Listed ℕ} → Numerals max ws r → Judged u32_of max [] ws r
  numerals-judged {ws} (said.whole k h) = rw (← length-map ws numeral) (whole (numerals-read k) (rw length-map h))
  numerals-judged (over front w rest i k h p) = fault front w rest i (numerals-read k) (rw length-map h) (answers_number Entry (2 ^ 32) w.bytes (Digits.over p))
  numerals-judged (strange front w rest i k h p) = fault front w rest i (numerals-read k) (rw length-map h) (answers_number Entry (2 ^ 32) w.bytes (Digits.strange p))
  numerals-judged (said.full front w rest i k h n) = full front w rest i (numerals-read k) (rw length-map h) (numeral_reads w n)

  -- a word with a fault of its own
  module _ {ws front : List Word} (w : Word) (rest : List Word) (i : ws ≡ front ++ (w ∷ rest)) (k : Each Numeral front) (h : length front ≤ max) where
    fault-numerals : {n : ℕ} → DigitAnswers Entry (2 ^ 32) w.bytes (refused n) → Numerals max ws (listed (refused n) (map numeral front))
    fault-numerals (Digits.over p) = over front w rest i k h p
    fault-numerals (Digits.strange p) = strange front w rest i k h p

  judged-numerals : {ws : List Word} {r : Listed ℕ} → Judged u32_of max [] ws r → Numerals max ws r
  judged-numerals {ws} (whole k h) =
      let n = reads-length u32_of max k in
      rw (n, (read-numerals k).1) (said.whole (read-numerals k).0 (omega arith))
  judged-numerals (fault front w rest i k h e) =
      let n = reads-length u32_of max k in
      rw (read-numerals k).1
      (fault-numerals w rest i (read-numerals k).0 (omega arith) (rw e at (number-answers Entry (2 ^ 32) w.bytes (omega arith))))
  judged-numerals (full front w rest i k h e) =
      let n = reads-length u32_of max k in
      rw (read-numerals k).1 (said.full front w rest i (read-numerals k).0 (omega arith) (reads-numeral w e).0)

  module _ (s : List ℕ) where
    -- What the words of a line say is what is answered,
    pub numerals-u32 : {r : Listed ℕ} → Numerals max (words 0 s) r → u32_list max s ≡ r
    unfolding u32_list
    numerals-u32 n = judged-judge u32_of max [] (words 0 s) (numerals-judged n)

    -- and every line has one of these answers.
    pub u32-numerals : Numerals max (words 0 s) (u32_list max s)
    unfolding u32_list
    u32-numerals = judged-numerals (judge-judged u32_of max [] (words 0 s) (omega arith))

    -- A list is accepted where its words are digits for numbers of 32 bits, at most max, and then its entries are those numbers;
    pub u32-whole : Each Numeral (words 0 s) → length (words 0 s) ≤ max
        → u32_list max s ≡ listed (value (length (words 0 s))) (map numeral (words 0 s))
    u32-whole k h = numerals-u32 (said.whole k h)

    -- and nowhere else.
    pub u32-whole-exact : {n : ℕ} → (u32_list max s).answer ≡ value n
        → Each Numeral (words 0 s) × (length (words 0 s) ≤ max) × (u32_list max s ≡ listed (value (length (words 0 s))) (map numeral (words 0 s)))
    u32-whole-exact e = of u32-numerals e
      where
        of : {r : Listed ℕ} {n : ℕ} → Numerals max (words 0 s) r → r.answer ≡ value n
            → Each Numeral (words 0 s) × (length (words 0 s) ≤ max) × (r ≡ listed (value (length (words 0 s))) (map numeral (words 0 s)))
        of (said.whole k h) z = (k, h, refl)
        of (over front w rest i k h p) z = absurd (let y : ◌≡◌ {A = ℕ} 0 1 = cc in omega arith)
        of (strange front w rest i k h p) z = absurd (let y : ◌≡◌ {A = ℕ} 0 1 = cc in omega arith)
        of (said.full front w rest i k h p) z = absurd (let y : ◌≡◌ {A = ℕ} 0 1 = cc in omega arith)
