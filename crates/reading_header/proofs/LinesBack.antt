-- The lines of an export's header, found again from the top to `.nodes`.
use mathlib.Core.Path.{◌≡◌, refl, sym, ap, ◌∙◌}
use mathlib.Core.Bool.{false}
use mathlib.Core.List.{List, [], ◌∷◌, ◌++◌, append-nil, append_assoc}
use Prim.Native.Nat.{ℕ, zero, suc, ◌+◌, ◌≤◌, ◌<◌}
use native.Mathlib.Omega.{arith}
use lib.Dec.{eqb}
use lib.ListN.{length, drop, length-append}
use borrow.Author.Tests.{lt-ltb}
use Rattle.read_lines.specs.Each.{Each, none, each}
use Rattle.header_keys.specs.declared.Key.TheVariants.{Nodes}
use Rattle.header_keys.specs.Keys.{slot_of}
use Rattle.header_faults.specs.Judge.{fault_of}
use Rattle.header_lines.specs.Sweep.{Said, Lines, nodes, at_nodes, lines_from, lines_of, end_from, end_of, all_of}
use Rattle.header_lines.specs.Sweep as sweep
use Rattle.heading.specs.Lines.{HeaderLine, line, line_text, lines_text}
use Rattle.reading_header.specs.Spans.{line_value, span_of, said_from}
use Rattle.reading_header.proofs.Standing.{stands_after}
use Rattle.reading_header.proofs.LineBack.{Written, LineBack, line-back}

-- lines from a position on, each of which is found where it stands
pub data LinesBack (f : List ℕ) : ℕ → List HeaderLine → Type 0 where
  done : {at : ℕ} → LinesBack f at []
  then : {at : ℕ} {l : HeaderLine} {ls : List HeaderLine} → LineBack f at l → LinesBack f (at + length (line_text l)) ls → LinesBack f at (l ∷ ls)

-- Lines that stand there are found.
pub lines_back : (f : List ℕ) (at : ℕ) (ls : List HeaderLine) (r : List ℕ) → drop at f ≡ lines_text ls ++ r → Each Written ls → LinesBack f at ls
unfolding lines_text
lines_back f at [] r e none = done
lines_back f at (l ∷ ls) r e (each w k) =
    let d : drop at f ≡ line_text l ++ (lines_text ls ++ r) = e ∙ append_assoc (line_text l) (lines_text ls) r in
    then (line-back f at l (lines_text ls ++ r) d w) (lines_back f (at + length (line_text l)) ls r (stands_after f at (line_text l) (lines_text ls ++ r) d) k)

-- a line before `.nodes`
abbrev pub Early : HeaderLine → Type 0
Early l = eqb (slot_of l.key) (slot_of Nodes) ≡ false

-- a line without a fault, wherever its value stands
abbrev pub Faultless : HeaderLine → Type 0
Faultless l = (at : ℕ) → fault_of l.key at (line_value l) ≡ 0

-- the lines of a sweep that ends with `.nodes`
unfoldable up_to_nodes : List Said → ℕ → Lines
up_to_nodes [] next = nodes next
up_to_nodes (s ∷ ss) next = sweep.line s (up_to_nodes ss next)

-- what they say
all_lines : (ss : List Said) (next : ℕ) → all_of (up_to_nodes ss next) ≡ ss
unfolding up_to_nodes all_of
all_lines [] next = refl
all_lines (s ∷ ss) next = ap (λ l. s ∷ l) (all_lines ss next)

-- the last line
abbrev pub closing : List HeaderLine
closing = line Nodes [] ∷ []

-- a line takes at least a byte
line-some : (l : HeaderLine) → 0 < length (line_text l)
line-some l = simp length-append (omega arith)

module _ (f : List ℕ) where
  -- at the last line
  lines-nodes : (at fuel : ℕ) → LineBack f at (line Nodes []) → lines_from (suc fuel) f at ≡ nodes (at + length (line_text (line Nodes [])))
  unfolding lines_from
  lines-nodes at fuel b = rw (lt-ltb at (length f) b.inside, b.key, lines_from) (ap nodes b.next)

  -- at one before it
  lines-early : (at fuel : ℕ) (l : HeaderLine) → LineBack f at l → Early l
      → lines_from (suc fuel) f at ≡ sweep.line (sweep.said l.key (span_of at l)) (lines_from fuel f (at + length (line_text l)))
  unfolding lines_from
  lines-early at fuel l b h = rw (lt-ltb at (length f) b.inside, b.key, h, lines_from, b.key, b.value, b.next)

  -- from a position on, where `fuel` bounds the lines
  lines-from : (ls : List HeaderLine) (at fuel : ℕ) → LinesBack f at (ls ++ closing) → Each Early ls → length f ≤ at + fuel
      → lines_from fuel f at ≡ up_to_nodes (said_from at ls) (at + length (lines_text (ls ++ closing)))
  unfolding up_to_nodes said_from lines_text
  lines-from [] at zero (then b done) none m = absurd (omega (arith, b.inside))
  lines-from [] at (suc fuel) (then b done) none m =
      lines-nodes at fuel b ∙ ap (λ s. nodes (at + length s)) (sym (append-nil (line_text (line Nodes []))))
  lines-from (l ∷ ls) at zero (then b rest) (each h k) m = absurd (omega (arith, b.inside))
  lines-from (l ∷ ls) at (suc fuel) (then b rest) (each h k) m =
      let n = length-append (line_text l) (lines_text (ls ++ closing)) in
      let z : at + length (line_text l) + length (lines_text (ls ++ closing)) ≡ at + length (line_text l ++ lines_text (ls ++ closing)) = omega arith in
      lines-early at fuel l b h
      ∙ ap (sweep.line (sweep.said l.key (span_of at l)))
      (lines-from ls (at + length (line_text l)) fuel rest k (omega (arith, line-some l)) ∙ rw z)

  -- lines without faults lead to `.nodes`
  end-from : (ls : List HeaderLine) (at n next : ℕ) → LinesBack f at (ls ++ closing) → Each Faultless ls
      → end_from n f (up_to_nodes (said_from at ls) next) ≡ at_nodes next (n + length ls)
  unfolding up_to_nodes said_from end_from
  end-from [] at n next b none = ap (at_nodes next) (omega arith)
  end-from (l ∷ ls) at n next (then b rest) (each h k) =
      let z : n + 1 + length ls ≡ n + suc (length ls) = omega arith in
      rw (b.bytes, h (span_of at l).start, end_from) (end-from ls (at + length (line_text l)) (n + 1) next rest k ∙ rw z)

-- A file that starts with lines, the last of which is `.nodes`.
module _ (f : List ℕ) (ls : List HeaderLine) (b : LinesBack f 0 (ls ++ closing)) (h : Each Early ls) where
  -- the lines of its sweep
  lines-of : lines_of f ≡ up_to_nodes (said_from 0 ls) (length (lines_text (ls ++ closing)))
  unfolding lines_of
  lines-of =
      let z : 0 + length (lines_text (ls ++ closing)) ≡ length (lines_text (ls ++ closing)) = omega arith in
      lines-from f ls 0 (length f) b h (omega arith) ∙ rw z

  -- They say what they were written with,
  pub all_back : all_of (lines_of f) ≡ said_from 0 ls
  all_back = rw lines-of (all_lines (said_from 0 ls) (length (lines_text (ls ++ closing))))

  -- and end behind `.nodes`, where none has a fault.
  pub end_back : Each Faultless ls → end_of f (lines_of f) ≡ at_nodes (length (lines_text (ls ++ closing))) (length (ls ++ closing))
  unfolding end_of
  end_back k =
      let z : 1 + length ls ≡ length (ls ++ closing) = omega (arith, length-append ls closing) in
      rw lines-of (end-from f ls 0 1 (length (lines_text (ls ++ closing))) b k ∙ rw z)
