-- A line of an export's header, found again where it stands.
use Rattle.std.specs.Prelude.{Some}
use mathlib.Core.Path.{◌≡◌, refl, sym, ap, ◌∙◌}
use mathlib.Core.Bool.{Bool, true, false, ◌||◌}
use mathlib.Core.List.{List, [], ◌∷◌, ◌++◌, append_assoc}
use Prim.Native.Nat.{ℕ, ◌+◌, ◌-◌, ◌<◌}
use native.Mathlib.Omega.{arith}
use lib.Dec.{eqb}
use lib.ListN.{length, drop, length-append}
use lib.Seq.{take-append_seam}
use Rattle.codes.specs.Bytes.{is_blank, is_line_end}
use Rattle.read_lines.specs.Each.{Each, none, each}
use Rattle.read_lines.specs.Line.{is_of, seek, trim, line_of, field_of}
use Rattle.read_lines.specs.declared.Class.TheVariants.{Feed, LineEnd, Blank}
use Rattle.read_lines.proofs.Searches.{seek_found, seek-end, line-ended, field-parts}
use Rattle.header_lines.specs.Sweep.{part, key_at, value_at}
use Rattle.header_values.specs.Values.{KnownKey}
use Rattle.writers.specs.Words.{spaced}
use Rattle.heading.specs.Lines.{HeaderLine, key_text, line_text}
use Rattle.reading_header.specs.Joined.{OnLine, Plain, trimmed, without_front, without_back}
use Rattle.reading_header.specs.Spans.{indent, line_value, start_at, span_of}
use Rattle.reading_header.proofs.Elements.{each-by, each_append}
use Rattle.reading_header.proofs.Plain.{plain-some}
use Rattle.reading_header.proofs.Standing.{stands-first, stands_after, stands-inside}
use Rattle.reading_header.proofs.Searches.{seek-over, trim-over, Indented, indented, trim-back, back-front}
use Rattle.reading_header.proofs.KeysBack.{key-plain, key_back}

-- no byte of a line is a feed
no-feed : (b : ℕ) → is_line_end b ≡ false → is_of Feed b ≡ false
unfolding is_line_end is_of
no-feed b = by (eqb b 10)
  where
    by : (t : Bool) → (t || eqb b 13) ≡ false → t ≡ false
    by true h = h
    by false h = refl

-- words with a space before each
spaced-on-line : {ws : List (List ℕ)} → Each OnLine ws → OnLine (spaced ws)
unfolding spaced is_line_end
spaced-on-line none = none
spaced-on-line (each h k) = each refl (each_append h (spaced-on-line k))

-- A line that is found again: its key is one of the header's, and its words have no line end.
pub record Written (l : HeaderLine) : Type 0 where
  pub known : KnownKey l.key
  pub words : Each OnLine l.words

-- What is found: its key, where its value stands and that value's bytes, and where the next line starts.
pub record LineBack (f : List ℕ) (at : ℕ) (l : HeaderLine) : Type 0 where
  pub inside : at < length f
  pub key : key_at f at ≡ Some l.key
  pub value : value_at f at ≡ span_of at l
  pub bytes : part f (span_of at l).start (span_of at l).end ≡ line_value l
  pub next : (line_of f at).next ≡ at + length (line_text l)

-- The line stands at a position: its key k, its words m with a space before each, and a feed.
module _ (f : List ℕ) (at : ℕ) (l : HeaderLine) (r : List ℕ) (e : drop at f ≡ line_text l ++ r) (w : Written l) where
  abbrev k : List ℕ
  k = key_text l.key

  abbrev m : List ℕ
  m = spaced l.words

  -- what stands where
  key-word : Plain k
  key-word = key-plain l.key w.known

  key_here : drop at f ≡ k ++ (m ++ (0x0a ∷ r))
  key_here = e ∙ append_assoc k (m ++ (0x0a ∷ [])) r ∙ ap (λ s. k ++ s) (append_assoc m (0x0a ∷ []) r)

  words-here : drop (at + length k) f ≡ m ++ (0x0a ∷ r)
  words-here = stands_after f at k (m ++ (0x0a ∷ r)) key_here

  -- The line ends at its feed, before which nothing is trimmed off.
  abbrev stop : ℕ
  stop = at + length (k ++ m)

  stop-by : at + length k + length m ≡ stop
  stop-by = omega (arith, length-append k m)

  line-here : drop at f ≡ (k ++ m) ++ (0x0a ∷ r)
  line-here = key_here ∙ sym (append_assoc k m (0x0a ∷ r))

  on_line : OnLine (k ++ m)
  on_line = each_append key-word.line (spaced-on-line w.words)

  stop-inside : stop < length f
  stop-inside = stands-inside f at (k ++ m) 0x0a r line-here

  feed-found : stop ≡ seek (is_of Feed) f at (length f - at)
  unfolding is_of
  feed-found =
      sym (seek-over (is_of Feed) f at (length f) (0x0a ∷ r) (each-by no-feed on_line) line-here (omega (arith, stop-inside))
      ∙ seek_found (is_of Feed) f stop (length f) stop-inside (rw (stands-first f stop (stands_after f at (k ++ m) (0x0a ∷ r) line-here))))

  end-found : stop ≡ trim (is_of LineEnd) f at (stop - at)
  unfolding is_of
  end-found = sym (trim-over (is_of LineEnd) f at (0x0a ∷ r) on_line line-here (omega (arith, plain-some key-word, stop-by)))

  line-found : line_of f at ≡ record { end = stop; next = stop + 1 }
  line-found = sym (line-ended f at stop stop feed-found end-found stop-inside)

  -- The key ends at a space, or with the line.
  key-stops : (vs : List (List ℕ)) → drop (at + length k) f ≡ spaced vs ++ (0x0a ∷ r) → at + length k + length (spaced vs) ≡ stop
      → seek (is_of Blank) f (at + length k) (stop - (at + length k)) ≡ at + length k
  unfolding spaced is_of is_blank
  key-stops [] d h = seek-end (is_of Blank) f (at + length k) stop (omega arith)
  key-stops (v ∷ vs) d h = seek_found (is_of Blank) f (at + length k) stop (omega arith) (rw (stands-first f (at + length k) d))

  key-found : at + length k ≡ seek (is_of Blank) f at (stop - at)
  unfolding is_of
  key-found =
      sym (seek-over (is_of Blank) f at stop (m ++ (0x0a ∷ r)) key-word.text.free key_here (omega (arith, stop-by))
      ∙ key-stops l.words words-here stop-by)

  key-bytes : part f at (at + length k) ≡ k
  key-bytes = let n : at + length k - at ≡ length k = omega arith in rw (n, key_here) (take-append_seam k (m ++ (0x0a ∷ r)))

  -- The value starts after the blanks behind it, and ends before those at the end.
  abbrev start : ℕ
  start = at + length k + indent m

  value-indented : Indented f (at + length k) stop m (0x0a ∷ r)
  value-indented = indented f (at + length k) stop m (0x0a ∷ r) words-here stop-by

  value_found : start + length (trimmed m) ≡ trim (is_of Blank) f start (stop - start)
  unfolding trimmed
  value_found =
      let n : stop - start ≡ length (without_front m) = omega (arith, stop-by, value-indented.long) in
      sym (rw n (trim-back f start (without_front m) (0x0a ∷ r) value-indented.rest))

  value-bytes : part f start (start + length (trimmed m)) ≡ trimmed m
  unfolding trimmed
  value-bytes =
      let n : start + length (without_back (without_front m)) - start ≡ length (without_back (without_front m)) = omega arith in
      rw (n, value-indented.rest) (back-front (without_front m) (0x0a ∷ r))

  field_found : field_of f at stop ≡ record { key = at + length k; start = start; end = start + length (trimmed m) }
  field_found = sym (field-parts f at stop (at + length k) start (start + length (trimmed m)) key-found (sym value-indented.found) value_found)

  -- So the line is found.
  pub line-back : LineBack f at l
  unfolding span_of line_value start_at
  line-back = record {
    inside = omega (arith, stop-inside);
    key = rw (line-found, field_found, key-bytes) (key_back l.key);
    value = rw (line-found, field_found);
    bytes = value-bytes;
    next = rw line-found (omega (arith, stop-by, length-append k (m ++ (0x0a ∷ [])), length-append m (0x0a ∷ [])));
  }
