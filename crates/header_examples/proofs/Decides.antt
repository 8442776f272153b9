-- The first line with a fault decides, whatever follows it.
use mathlib.Core.Path.{◌≡◌, refl, ap, ◌∙◌}
use mathlib.Core.List.{List, [], ◌∷◌, ◌++◌}
use Prim.Native.Nat.{ℕ, zero, suc, ◌+◌, ◌≤◌, ◌<◌}
use native.Mathlib.Omega.{arith}
use lib.ListN.{length, length-append}
use borrow.Author.Tests.{lt-ltb}
use Rattle.codes.specs.Limits.{Limits}
use Rattle.read_lines.specs.Each.{Each, none, each}
use Rattle.header_faults.specs.Judge.{fault_of}
use Rattle.header_lines.specs.Sweep.{refused_at, lines_from, lines_of, end_from, end_of}
use Rattle.header_lines.specs.Sweep as sweep
use Rattle.heading.specs.Lines.{HeaderLine, line_text}
use Rattle.header.specs.Header.{refusal, read_of}
use Rattle.reading_header.specs.Spans.{line_value, span_of}
use Rattle.reading_header.proofs.LineBack.{Written, LineBack}
use Rattle.reading_header.proofs.LinesBack.{LinesBack, done, then, lines_back, Early, Faultless}
use Rattle.header_examples.specs.Lists.{starting_with}

-- a line takes at least a byte
some_bytes : (l : HeaderLine) → 0 < length (line_text l)
some_bytes l = simp length-append (omega arith)

module _ (f : List ℕ) (l : HeaderLine) (n : ℕ) (early : Early l) (fault : (at : ℕ) → fault_of l.key at (line_value l) ≡ suc n) where
  -- a line before `.nodes`
  line-here : (at fuel : ℕ) (x : HeaderLine) → LineBack f at x → Early x
      → lines_from (suc fuel) f at ≡ sweep.line (sweep.said x.key (span_of at x)) (lines_from fuel f (at + length (line_text x)))
  unfolding lines_from
  line-here at fuel x b h = rw (lt-ltb at (length f) b.inside, b.key, h, lines_from, b.key, b.value, b.next)

  -- from a position on, where lines without faults come first, and `fuel` bounds the lines
  refused-from : (ls : List HeaderLine) (at fuel k : ℕ) → LinesBack f at (ls ++ (l ∷ [])) → Each Early ls → Each Faultless ls
      → length f ≤ at + fuel → end_from k f (lines_from fuel f at) ≡ refused_at (suc n) (k + length ls)
  unfolding end_from
  refused-from [] at zero k (then b done) none none m = absurd (omega (arith, b.inside))
  refused-from [] at (suc fuel) k (then b done) none none m =
      rw (line-here at fuel l b early, end_from, b.bytes, fault (span_of at l).start) (ap (refused_at (suc n)) (omega arith))
  refused-from (x ∷ ls) at zero k (then b rest) (each h hs) (each z zs) m = absurd (omega (arith, b.inside))
  refused-from (x ∷ ls) at (suc fuel) k (then b rest) (each h hs) (each z zs) m =
      let e : k + 1 + length ls ≡ k + suc (length ls) = omega arith in
      rw (line-here at fuel x b h, end_from, b.bytes, z (span_of at x).start)
      (refused-from ls (at + length (line_text x)) fuel (k + 1) rest hs zs (omega (arith, some_bytes x)) ∙ rw e)

-- 'The line counts from 1 at the top of the file': after lines without faults a line with one refuses the header, with its own line.
pub line-decides : (m : Limits) (ls : List HeaderLine) (l : HeaderLine) (rest : List ℕ) (n : ℕ) → Each Written (ls ++ (l ∷ [])) → Each Early ls
    → Early l → Each Faultless ls → ((at : ℕ) → fault_of l.key at (line_value l) ≡ suc n)
    → read_of m (starting_with ls l rest) ≡ refusal (suc n) (1 + length ls)
unfolding read_of end_of lines_of
line-decides m ls l rest n w hs h zs fault =
    let f = starting_with ls l rest in
    rw (refused-from f l n h fault ls 0 (length f) 1 (lines_back f 0 (ls ++ (l ∷ [])) rest refl w) hs zs (omega arith))
