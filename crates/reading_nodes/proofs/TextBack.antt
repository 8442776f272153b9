-- A node line of text that was written is read back as itself.
use mathlib.Core.Path.{◌≡◌, refl, sym, ◌∙◌}
use mathlib.Core.Bool.{false}
use mathlib.Core.List.{List, [], ◌∷◌, ◌++◌, append_assoc, append-nil}
use Prim.Native.Nat.{ℕ, ◌+◌, ◌-◌, ◌^◌, ◌≤◌, ◌<◌}
use native.Mathlib.Omega.{arith}
use lib.ListN.{length, get_or, drop, length-append}
use lib.Seq.{drop-append_seam}
use lib.IntN.{ℤ, pos, nat_abs}
use Rattle.codes.specs.Answer.{value, got}
use Rattle.codes.specs.Bytes.{is_blank}
use Rattle.edges.specs.Edge.{minus}
use Rattle.read_text.specs.Alike.{alike}
use Rattle.header_lines.specs.Sweep.{part}
use Rattle.read_lines.specs.Each.{none, each}
use Rattle.read_lines.specs.Words.{Word, word}
use Rattle.read_lines.specs.Spaced.{Spaced, last, next}
use Rattle.read_edges.specs.Edges.{edge_list, pair, children}
use Rattle.read_lines.specs.Line.{is_of, line_of}
use Rattle.read_lists.specs.Lists.{listed}
use Rattle.read_lines.specs.declared.Class.TheVariants.{Feed, LineEnd}
use Rattle.read_edges.specs.Entries.{Entries, more}
use Rattle.read_edges.specs.Entries
use Rattle.read_edges.proofs.EdgeList.{edge-values}
use Rattle.read_lines.proofs.Spaced.{spaced-words}
use Rattle.read_lines.proofs.Searches.{trim-found, line-ended}
use Rattle.node_lines.specs.Line.{Line, terminal, inner, child_fault}
use Rattle.import_ascii.specs.Text.{described, text_line, text_line_at}
use Rattle.import_ascii.proofs.Faults.{fault-none, position-inner}
use Rattle.import_ascii.proofs.TextLines.{list-position, line-got}
use Rattle.imported.specs.Build.{ChildBelow, Judged}
use Rattle.writers.specs.Decimal.{decimal, edge_text, digits}
use Rattle.writers.specs.Words.{spaced}
use Rattle.writers.proofs.Decimal.{decimal-some, decimal-single, edge-signed, edge-says}
use Rattle.node_writers.specs.Encoded.{words_of, text_bytes}
use Rattle.reading_nodes.proofs.Standing.{stands_after, stands-part, stands_at, stands-inside, Reads, seek-over}
use Rattle.reading_nodes.proofs.TextWords.{From, from-append, from_less, no-feeds, no-line-end, decimal-from, edge-from, edge-text, variable-back}

module _ (t e : ℤ) (ht : nat_abs t < 2 ^ 63) (he : nat_abs e < 2 ^ 63) where
  -- two edges, with a space before each
  abbrev two : List ℕ
  two = 0x20 ∷ (edge_text t ++ (0x20 ∷ (edge_text e ++ [])))

  -- they are its words,
  abbrev words-there : List Word
  words-there = word 1 (edge_text t) ∷ word (1 + length (edge_text t) + 1) (edge_text e) ∷ []

  second-spaced : Spaced (1 + length (edge_text t)) (0x20 ∷ (edge_text e ++ [])) (word (1 + length (edge_text t) + 1) (edge_text e) ∷ [])
  unfolding is_blank
  second-spaced = rw append-nil (last (0x20 ∷ []) (edge_text e) (each refl none) (edge-text e he))

  both-spaced : Spaced 0 two words-there
  unfolding is_blank
  both-spaced = next (0x20 ∷ []) (edge_text t) (each refl none) (edge-text t ht) refl second-spaced

  -- each of which is an entry,
  both-said : Entries words-there (t ∷ e ∷ [])
  both-said =
      rw (edge-signed t, edge-signed e) at
      (more {w = word 1 (edge_text t)} {minus = minus t} (edge-says t ht)
      (more {w = word (1 + length (edge_text t) + 1) (edge_text e)} {minus = minus e} (edge-says e he) Entries.none))

  -- and so they are read as a list of two
  edges-back : (max : ℕ) → 2 ≤ max → edge_list max two ≡ listed (value 2) (t ∷ e ∷ [])
  edges-back max h = edge-values max two (rw (spaced-words both-spaced) both-said) h

  -- and so as two children
  children-back : children two ≡ value (pair 2 t e)
  unfolding children
  children-back = rw (edges-back (length two) (omega (arith, length-append (edge_text t) (0x20 ∷ (edge_text e ++ [])))))

  -- a line of a number, a word and two edges
  module _ (n : ℕ) (w : List ℕ) (hn : n < 2 ^ 64) (some : 1 ≤ length w) (hw : From 33 w) where
    abbrev line : List ℕ
    line = decimal n ++ (0x20 ∷ (w ++ two))

    -- it is read as its word and its children say
    line-says : (levels seats : List ℕ) → text_line false levels seats n line ≡ described levels seats n w (value (pair 2 t e))
    unfolding text_line
    line-says levels seats =
        let r = edge_text t ++ (0x20 ∷ (edge_text e ++ [])) in
        let m = length (decimal n) in
        let here : drop (m + 1) line ≡ w ++ two = stands_after line m (0x20 ∷ []) (w ++ two) (drop-append_seam (decimal n) (0x20 ∷ (w ++ two))) in
        rw (← variable-back n w r hn some hw, stands-part line (m + 1) w two here, stands_after line (m + 1) w two here, children-back)

    -- and has no line end
    line-from : From 32 line
    line-from =
        from-append (from_less (decimal-from n hn)) (each (omega arith)
        (from-append (from_less hw) (each (omega arith)
        (from-append (from_less (edge-from t ht)) (each (omega arith)
        (from-append (from_less (edge-from e he)) none))))))

-- Bytes with no line end among them, and a line feed after them, are a line.
module _ (f : List ℕ) (at : ℕ) (s r : List ℕ) (some : 1 ≤ length s) (h : From 32 s) (e : drop at f ≡ s ++ (0x0a ∷ r)) where
  -- where it ends, and where the next starts
  line-back : record { end = at + length s; next = at + length s + 1 } ≡ line_of f at
  unfolding is_of
  line-back =
      let k : at + length s - 1 ≡ at + (length s - 1) = omega arith in
      let last : is_of LineEnd (get_or f (at + length s - 1) 0) ≡ false =
      rw (k, stands_at f at s (0x0a ∷ r) e (length s - 1) (omega arith)) (no-line-end s (length s - 1) h (omega arith)) in
      line-ended f at (at + length s) (at + length s) (sym (seek-over (is_of Feed) f at 0x0a r (no-feeds h) refl e))
      (sym (trim-found (is_of LineEnd) f at (at + length s) (omega arith) last)) (stands-inside f at s 0x0a r e)

  -- A line that says l is read as l, up to the position after the line feed.
  text_at_lem : (levels seats : List ℕ) (n : ℕ) {l : Line} → value l ≡ text_line false levels seats n s
      → text_line_at false levels seats n f at ≡ got l (at + length s + 1)
  text_at_lem levels seats n {l} k =
      let q : part f at (at + length s) ≡ s = stands-part f at s (0x0a ∷ r) e in
      sym (line-got false levels seats n f at (omega (arith, stands-inside f at s 0x0a r e)) line-back (rw q k))

-- a terminal line has 0 for each child
zero-text : edge_text (pos 0) ≡ 0x30 ∷ []
unfolding edge_text decimal digits minus
zero-text = refl

module _ (levels seats : List ℕ) (n : ℕ) (few : length levels ≤ 2 ^ 32) (small : n < 2 ^ 63) where
  -- What is written of a line before its line feed says that line, and has no line end.
  record Written (l : Line) : Type 0 where
    from : From 32 (decimal n ++ spaced (words_of l))
    says : value l ≡ text_line false levels seats n (decimal n ++ spaced (words_of l))

  -- so of a terminal line,
  terminal-written : Written terminal
  unfolding spaced alike
  terminal-written =
      let z : nat_abs (pos 0) < 2 ^ 63 = omega arith in
      let w : From 33 (0x54 ∷ []) = each {a = 0x54} (omega arith) none in
      record {
        from = rw zero-text at (line-from (pos 0) (pos 0) z z n (0x54 ∷ []) (omega arith) (omega arith) w);
        says = sym (rw zero-text at (line-says (pos 0) (pos 0) z z n (0x54 ∷ []) (omega arith) (omega arith) w levels seats));
      }

  -- a child that was judged has no fault
  no-fault : (l : ℕ) (c : ℤ) → ChildBelow levels seats n l c → 0 ≡ child_fault levels seats n l c
  no-fault l c k = fault-none levels seats n l c refl k.below refl k.deep

  -- of an inner line,
  inner-written : (p : ℕ) (t e : ℤ) → Judged levels seats n (inner p t e) → Written (inner p t e)
  unfolding spaced
  inner-written p t e j =
      let h : p < 2 ^ 32 = omega (arith, j.position) in
      let x : nat_abs t < 2 ^ 63 = omega (arith, j.then.below) in
      let y : nat_abs e < 2 ^ 63 = omega (arith, j.els.below) in
      let w : From 33 (decimal p) = decimal-from p (omega arith) in
      record {
        from = line-from t e x y n (decimal p) (omega arith) (decimal-some p) w;
        says = list-position levels seats n (decimal p) {t = t} {e = e} refl refl (λ z. omega (arith, j.then.some)) (λ z. omega (arith, j.els.some))
            (sym (decimal-single p (omega arith) (2 ^ 32) h))
            (position-inner levels seats n p t e j.position (no-fault _ t j.then) refl (no-fault _ e j.els) refl)
            ∙ sym (line-says t e x y n (decimal p) (omega arith) (decimal-some p) w levels seats);
      }

  -- and of each line that was judged
  written : (l : Line) → Judged levels seats n l → Written l
  written terminal j = terminal-written
  written (inner p t e) j = inner-written p t e j

  -- So it is read back, wherever it stands.
  pub text-line-back : (f : List ℕ) (l : Line) → Judged levels seats n l → Reads f (text_line_at false levels seats n f) (text_bytes n l) l
  unfolding text_bytes
  text-line-back f l j =
      let s = decimal n ++ spaced (words_of l) in
      let w = written l j in
      let some : 1 ≤ length s = simp length-append (omega (arith, decimal-some n)) in
      record {
        back = λ at r e.
            let end : at + length (text_bytes n l) ≡ at + length s + 1 = simp length-append (omega arith) in
            rw end (text_at_lem f at s r some w.from (e ∙ simp append_assoc) levels seats n w.says);
      }
