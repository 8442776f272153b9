-- What a search finds among bytes that stand in a file, forward and backward.
use mathlib.Core.Path.{◌≡◌, refl, sym, ap, ◌∙◌}
use mathlib.Core.Bool.{Bool, true, false, cond}
use mathlib.Core.List.{List, [], ◌∷◌, ◌++◌}
use Prim.Native.Nat.{ℕ, zero, suc, ◌+◌, ◌-◌, ◌≤◌, ◌<◌}
use native.Mathlib.Omega.{arith}
use lib.ListN.{length, get_or, take, drop}
use Rattle.codes.specs.Bytes.{is_blank}
use Rattle.read_lines.specs.Each.{Each, none, each}
use Rattle.read_lines.specs.Line.{is_of, seek, trim}
use Rattle.read_lines.specs.declared.Class.TheVariants.{Blank, NonBlank}
use Rattle.read_lines.proofs.Searches.{seek_found, seek-past, seek-end, trim-found}
use Rattle.reading_header.specs.Joined.{without_front, kept, without_back}
use Rattle.reading_header.specs.Spans.{indent}
use Rattle.reading_header.proofs.Elements.{each_at}
use Rattle.reading_header.proofs.Standing.{stands-first, stands_after, stands-each}

-- Forward a search goes over bytes without the property.
pub seek-over : (p : ℕ → Bool) (f : List ℕ) {w : List ℕ} (at end : ℕ) (r : List ℕ) → Each (λ y. p y ≡ false) w → drop at f ≡ w ++ r
    → at + length w ≤ end → seek p f at (end - at) ≡ seek p f (at + length w) (end - (at + length w))
seek-over p f at end r none e h = let z : at + 0 ≡ at = omega arith in rw z
seek-over p f at end r (each {a = x} {l = w} q k) e h =
    let z : at + 1 + length w ≡ at + suc (length w) = omega arith in
    seek-past p f at end (omega arith) (rw (stands-first f at e) q)
    ∙ seek-over p f (at + 1) end r k (stands_after f at (x ∷ []) (w ++ r) e) (omega arith)
    ∙ rw z

-- Backward nothing is trimmed off them.
pub trim-over : (p : ℕ → Bool) (f : List ℕ) {w : List ℕ} (at : ℕ) (r : List ℕ) → Each (λ y. p y ≡ false) w → drop at f ≡ w ++ r
    → 0 < length w → trim p f at (at + length w - at) ≡ at + length w
trim-over p f {w} at r k e h =
    let z : at + length w - 1 ≡ at + (length w - 1) = omega arith in
    trim-found p f at (at + length w) (omega arith)
    (rw (z, stands-each f at w r e (length w - 1) (omega arith)) (each_at (length w - 1) 0 (omega arith) k))

-- Forward over the blanks of bytes m that end where the line does: the first byte that is none, and what stands from there on.
pub record Indented (f : List ℕ) (at end : ℕ) (m r : List ℕ) : Type 0 where
  pub found : seek (is_of NonBlank) f at (end - at) ≡ at + indent m
  pub rest : drop (at + indent m) f ≡ without_front m ++ r
  pub long : indent m + length (without_front m) ≡ length m

-- a byte more in front
module _ (f : List ℕ) (at end b : ℕ) (m r : List ℕ) (e : drop at f ≡ b ∷ (m ++ r)) (h : at < end) where
  indented-by : (t : Bool) → is_blank b ≡ t → Indented f (at + 1) end m r → Indented f at end (b ∷ m) r
  unfolding indent without_front is_of
  indented-by true q i =
      let z : at + 1 + indent m ≡ at + suc (indent m) = omega arith in
      record {
        found = rw q (seek-past (is_of NonBlank) f at end h (rw (stands-first f at e, q)) ∙ i.found ∙ z);
        rest = rw q (rw z at i.rest);
        long = rw q (omega (arith, i.long));
      }
  indented-by false q i =
      let z : at + 0 ≡ at = omega arith in
      record {
        found = rw q (seek_found (is_of NonBlank) f at end h (rw (stands-first f at e, q)) ∙ sym z);
        rest = rw (q, z) e;
        long = rw q (omega arith);
      }

-- so they are found
pub indented : (f : List ℕ) (at end : ℕ) (m r : List ℕ) → drop at f ≡ m ++ r → at + length m ≡ end → Indented f at end m r
unfolding indent without_front
indented f at end [] r e h =
    let z : at + 0 ≡ at = omega arith in
    record { found = seek-end (is_of NonBlank) f at end (omega arith) ∙ sym z; rest = rw z e; long = refl }
indented f at end (b ∷ m) r e h =
    indented-by f at end b m r e (omega arith) (is_blank b) refl (indented f (at + 1) end m r (stands_after f at (b ∷ []) (m ++ r) e) (omega arith))

-- Backward over blanks, with a byte more in front: of the bytes behind it w is left.
module _ (p : ℕ → Bool) (f : List ℕ) (a b : ℕ) (q : p (get_or f a 0) ≡ is_blank b) where
  -- where nothing is left of them, the byte alone counts
  kept-one : (t : Bool) → cond t a (a + 1) ≡ a + length (cond t [] (b ∷ []))
  kept-one true = omega arith
  kept-one false = refl

  -- one more of them, by whether it is trimmed off
  kept_by : (n : ℕ) (w : List ℕ) (t : Bool)
      → (trim p f (a + 1) n ≡ a + 1 + length w → trim p f a (suc n) ≡ a + length (kept b w))
      → cond t (trim p f (a + 1) n) (a + 1 + suc n) ≡ a + 1 + length w
      → cond t (trim p f a (suc n)) (a + suc (suc n)) ≡ a + length (kept b w)
  kept_by n w true r h = r h
  kept_by n [] false r h = absurd (omega arith)
  kept_by n (c ∷ w) false r h = omega arith

  trim-kept : (n : ℕ) (w : List ℕ) → trim p f (a + 1) n ≡ a + 1 + length w → trim p f a (suc n) ≡ a + length (kept b w)
  unfolding trim
  trim-kept zero [] h = let z : a + 0 ≡ a = omega arith in rw (z, q) (kept-one (is_blank b))
  trim-kept zero (c ∷ w) h = absurd (omega arith)
  trim-kept (suc n) w h =
      let z : a + 1 + n ≡ a + suc n = omega arith in
      kept_by n w (p (get_or f (a + suc n) 0)) (trim-kept n w) (rw z at h)

-- So the blanks at the end of bytes v are trimmed off,
pub trim-back : (f : List ℕ) (at : ℕ) (v r : List ℕ) → drop at f ≡ v ++ r → trim (is_of Blank) f at (length v) ≡ at + length (without_back v)
unfolding trim without_back is_of
trim-back f at [] r e = omega arith
trim-back f at (b ∷ v) r e =
    trim-kept (is_of Blank) f at b (ap is_blank (stands-first f at e)) (length v) (without_back v)
    (trim-back f (at + 1) v r (stands_after f at (b ∷ []) (v ++ r) e))

-- and what is left is their front.
pub back-front : (v r : List ℕ) → take (length (without_back v)) (v ++ r) ≡ without_back v
unfolding without_back
back-front [] r = refl
back-front (b ∷ v) r = by (without_back v) (back-front v r)
  where
    one : (t : Bool) → take (length (cond t [] (b ∷ []))) (b ∷ (v ++ r)) ≡ cond t [] (b ∷ [])
    one true = refl
    one false = refl

    by : (w : List ℕ) → take (length w) (v ++ r) ≡ w → take (length (kept b w)) (b ∷ (v ++ r)) ≡ kept b w
    by [] h = one (is_blank b)
    by (c ∷ w) h = ap (λ l. b ∷ l) h
