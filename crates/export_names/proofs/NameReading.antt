-- Laws of a name's bytes, read from left to right.
use mathlib.Core.Path.{◌≡◌, refl, sym, ap, ◌∙◌}
use mathlib.Core.Bool.{Bool, true, false, cond, not, ◌&&◌, ◌||◌, and-true, and-false, and_assoc}
use mathlib.Core.List.{List, [], ◌∷◌}
use Prim.Native.Nat.{ℕ, zero, suc, ◌+◌, ◌-◌, ◌≤◌, ◌<◌}
use native.Mathlib.Omega.{arith}
use lib.ListN.{length, get_or, drop, length-drop}
use lib.Seq.{length-take-le, get_or-take, get_or-drop}
use lib.Dec.{ltb, leb, eqb}
use borrow.Author.Tests.{eqb-true, eq-eqb, leb-true, leb-false, le-leb, lt-leb}
use Rattle.codes.specs.Bytes.{is_control}
use Rattle.codes.specs.Machine.{Next, go, stop, after, run}
use Rattle.codes.proofs.Machine.{run-go, run-stop, run_end}
use Rattle.codes.proofs.Bytes.{both}
use Rattle.read_text.specs.declared.Utf8.{Utf8}
use Rattle.read_text.specs.declared.Utf8.TheVariants.{Whole, Tail}
use Rattle.read_text.specs.Text.{place, utf8_next, utf8_end, is_utf8}
use Rattle.export_names.specs.Names.{name_at, fit_byte, fit_bytes, fit_name, fit_place, fit_span, name_next, name_reads}

-- a step that goes on, or says that the bytes are no UTF-8
data Refusing : Next Utf8 Bool → Type 0 where
  goes : {t : Utf8} → Refusing (go t)
  refuses : Refusing (stop false)

-- of two such steps each is one
either : (b : Bool) {m n : Next Utf8 Bool} → Refusing m → Refusing n → Refusing (cond b m n)
either true p q = p
either false p q = q

-- reading UTF-8 stops at faults alone
stops-refusing : (t : Utf8) (x : ℕ) → Refusing (utf8_next t x)
unfolding utf8_next
stops-refusing Whole x =
    either (ltb x 0x80) goes
    (either (ltb x 0xc2) refuses
    (either (ltb x 0xe0) goes
    (either (eqb x 0xe0) goes
    (either (eqb x 0xed) goes
    (either (ltb x 0xf0) goes
    (either (eqb x 0xf0) goes
    (either (ltb x 0xf4) goes
    (either (eqb x 0xf4) goes refuses))))))))
stops-refusing (Tail n lo hi) x = either (leb lo x && leb x hi) goes refuses

-- one byte's part of the law below
both-step : (f : Bool) {n : Next Utf8 Bool} → Refusing n → (j k : Utf8 → Bool) (w : Bool) → ((u : Utf8) → j u ≡ (k u && w))
    → after (cond f n (stop false)) j ≡ (after n k && (f && w))
both-step true (goes {t}) j k w h = h t
both-step true refuses j k w h = refl
both-step false (goes {t}) j k w h = sym (and-false (k t))
both-step false refuses j k w h = refl

-- to read a name is to read UTF-8 and to test each byte
reads_both : (d : Bool) (t : Utf8) (s : List ℕ) → run (name_next d) utf8_end t s ≡ (run utf8_next utf8_end t s && fit_bytes d s)
unfolding run fit_bytes name_next
reads_both d t [] = sym (and-true (utf8_end t))
reads_both d t (b ∷ s) = both-step (fit_byte d b) (stops-refusing t b) _ _ (fit_bytes d s) (λ u. reads_both d u s)

-- what is forbidden is allowed to the diagram's name
unless : (d x : Bool) → (x ≡ true → d ≡ true) → (d || not x) ≡ true
unless true x h = refl
unless false true h = h refl
unless false false h = refl

module _ (d : Bool) (t : Utf8) (b : ℕ) where
  -- a control byte
  pub next-control : is_control b ≡ true → stop false ≡ name_next d t b
  unfolding name_next
  next-control e = rw e

  -- a space, other than in the diagram's name
  pub next-space : d ≡ false → b ≡ 0x20 → stop false ≡ name_next d t b
  unfolding name_next
  next-space e h = rw (e, eq-eqb b 0x20 h, and-false (not (is_control b)))

  -- any other byte
  pub next-fit : is_control b ≡ false → (b ≡ 0x20 → d ≡ true) → utf8_next t b ≡ name_next d t b
  unfolding name_next
  next-fit e h = rw (e, unless d (eqb b 0x20) (λ q. h (eqb-true b 0x20 q)))

-- a name may have a length other than 0, and the diagram's any
some : (d : Bool) (n : ℕ) → (n ≡ 0 → d ≡ true) → (d || leb 1 n) ≡ true
some true n e = refl
some false zero e = e refl
some false (suc n) e = le-leb 1 (suc n) (omega arith)

-- to end inside is to start early enough
early : (s n lent : ℕ) → n ≤ lent → leb s (lent - n) ≡ leb (s + n) lent
early s n lent h = go (leb s (lent - n)) refl
  where
    go : (b : Bool) → leb s (lent - n) ≡ b → b ≡ leb (s + n) lent
    go true e = sym (le-leb (s + n) lent (omega (arith, leb-true s (lent - n) e)))
    go false e = sym (lt-leb (s + n) lent (omega (arith, leb-false s (lent - n) e)))

module _ (d : Bool) (lent s n : ℕ) where
  -- an empty name, other than the diagram's
  pub span-empty : d ≡ false → n ≡ 0 → false ≡ fit_span d lent (place s n)
  unfolding fit_span
  span-empty e z = rw (e, z)

  -- one that is too long
  pub span-long : 255 < n → false ≡ fit_span d lent (place s n)
  unfolding fit_span
  span-long h = rw (lt-leb n 255 h, and-false (d || leb 1 n))

  -- one that is longer than all lent bytes
  pub span-outside : lent < n → false ≡ fit_span d lent (place s n)
  unfolding fit_span
  span-outside h = rw (lt-leb (s + n) lent (omega arith), and-false ((d || leb 1 n) && leb n 255))

  -- one of a fit length: its start decides
  pub span-start : (n ≡ 0 → d ≡ true) → n ≤ 255 → n ≤ lent → leb s (lent - n) ≡ fit_span d lent (place s n)
  unfolding fit_span
  span-start e h k = rw (some d n e, le-leb n 255 h) (early s n lent k)

  -- a name that lies inside
  span-inside : fit_span d lent (place s n) ≡ true → s + n ≤ lent
  unfolding fit_span
  span-inside h = leb-true (s + n) lent (both ((d || leb 1 n) && leb n 255) (leb (s + n) lent) h).1

module _ (bytes : List ℕ) (s n : ℕ) where
  -- a name that lies inside is as long as it says
  pub length-name : s + n ≤ length bytes → length (name_at bytes (place s n)) ≡ n
  length-name h = length-take-le n (drop s bytes) (rw length-drop (omega arith))

  -- the byte at a position of a name
  name-byte : (k : ℕ) → k < n → get_or (name_at bytes (place s n)) k 0 ≡ get_or bytes (s + k) 0
  name-byte k h = get_or-take n (drop s bytes) k 0 h ∙ get_or-drop s bytes k 0

module _ (d : Bool) (bytes : List ℕ) (s n : ℕ) where
  -- a name is fit if what is told before its bytes are read is fit, and the bytes read well
  place-reads : fit_place d bytes (place s n) ≡ (fit_span d (length bytes) (place s n) && name_reads d (name_at bytes (place s n)))
  unfolding fit_span fit_name name_reads is_utf8
  place-reads = go (leb (s + n) (length bytes)) refl
    where
      sized : Bool
      sized = (d || leb 1 n) && leb n 255

      go : (b : Bool) → leb (s + n) (length bytes) ≡ b
          → fit_place d bytes (place s n) ≡ (fit_span d (length bytes) (place s n) && name_reads d (name_at bytes (place s n)))
      go true e =
          rw (e, length-name bytes s n (leb-true (s + n) (length bytes) e), reads_both d Whole (name_at bytes (place s n)), and-true sized)
          (and_assoc sized (is_utf8 (name_at bytes (place s n))) (fit_bytes d (name_at bytes (place s n))))
      go false e = rw (e, and-false sized)

  -- so an unfit place decides
  pub place-unfit : false ≡ fit_span d (length bytes) (place s n) → fit_place d bytes (place s n) ≡ false
  place-unfit h = place-reads ∙ rw (← h)

-- a name has a fit place, and its first k bytes are read, so that the state and the other bytes decide
pub record Reading (d : Bool) (bytes : List ℕ) (s n : ℕ) (t : Utf8) (k : ℕ) : Type 0 where
  pub inside : s + n ≤ length bytes
  pub rest : fit_place d bytes (place s n) ≡ run (name_next d) utf8_end t (drop k (name_at bytes (place s n)))

-- no byte is read yet
pub reading-start : (d : Bool) (bytes : List ℕ) (s n : ℕ) → true ≡ fit_span d (length bytes) (place s n) → Reading d bytes s n Whole 0
unfolding name_reads
reading-start d bytes s n h =
    record { inside = span-inside d (length bytes) s n (sym h); rest = place-reads d bytes s n ∙ rw (← h) }

module _ {d : Bool} {bytes : List ℕ} {s n : ℕ} {t : Utf8} {k : ℕ} (r : Reading d bytes s n t k) where
  -- one byte more
  pub reading-more : {u : Utf8} → k < n → name_next d t (get_or bytes (s + k) 0) ≡ go u → Reading d bytes s n u (k + 1)
  reading-more h e = record {
    inside = r.inside;
    rest =
        r.rest
        ∙ run-go (name_next d) utf8_end (name_at bytes (place s n)) k (rw (length-name bytes s n r.inside) h) (ap (name_next d t) (name-byte bytes s n k h) ∙ e);
  }

  -- an unfit byte
  pub reading-stops : k < n → name_next d t (get_or bytes (s + k) 0) ≡ stop false → fit_place d bytes (place s n) ≡ false
  reading-stops h e =
      r.rest
      ∙ run-stop (name_next d) utf8_end (name_at bytes (place s n)) k (rw (length-name bytes s n r.inside) h) (ap (name_next d t) (name-byte bytes s n k h) ∙ e)

  -- all bytes are read
  pub reading-end : n ≤ k → fit_place d bytes (place s n) ≡ utf8_end t
  reading-end h = r.rest ∙ run_end (name_next d) utf8_end (name_at bytes (place s n)) k (rw (length-name bytes s n r.inside) h)
