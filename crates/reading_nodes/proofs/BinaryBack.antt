-- A binary node line that was written is read back as itself.
use mathlib.Core.Path.{◌≡◌, sym, ◌∙◌}
use mathlib.Core.Bool.{true}
use mathlib.Core.List.{List, ◌++◌}
use mathlib.Core.Logic.{⊎_elim}
use Prim.Native.Nat.{ℕ, ◌-◌, ◌/◌, ◌^◌, ◌≤◌, ◌<◌}
use native.Mathlib.Omega.{arith}
use lib.ListN.{length, get_or, get_or-eq_default}
use lib.IntN.{ℤ, pos, nat_abs}
use borrow.Author.Tests.{ltb-true, lt-ltb}
use Rattle.codes.specs.Answer.{got, then}
use Rattle.codes.specs.Codes.{code_of}
use Rattle.codes.specs.declared.Code.{Code}
use Rattle.edges.specs.Edge.{minus}
use Rattle.seats.specs.Ordered.{ascending}
use Rattle.read_binary.specs.Binary.{byte_at}
use Rattle.read_lines.proofs.Searches.{split}
use Rattle.node_lines.specs.Line.{Line, terminal, inner, deeper}
use Rattle.node_lines.proofs.Depth.{deeper-seat}
use Rattle.line_numbers.specs.Numbers.{child_at, variable_at}
use Rattle.import_bin.specs.Bin.{resolved, by_code, bin_line_at}
use Rattle.imported.specs.Build.{Inner, Judged}
use Rattle.writers.specs.Binary.{escaped}
use Rattle.writers.proofs.Decimal.{edge-signed}
use Rattle.writers.proofs.Escaped.{escaped-reads}
use Rattle.node_writers.specs.Encoded.{code_byte, number_for, child_code, smaller, variable_code, inner_bytes, bin_bytes}
use Rattle.reading_nodes.specs.Back.{ThenPlain}
use Rattle.reading_nodes.proofs.LevelOrder.{ascending-order}
use Rattle.reading_nodes.proofs.Standing.{Reads, reads_then}
use Rattle.reading_nodes.proofs.BinaryCodes.{byte-variable, byte-then, byte-complement, byte-else, child-reads, number_read, variable-reads, counts-smaller, Between, between-small, smaller-between, variable-inner, variable-leads}

-- A child that is deeper than a position's level has a later position, or is a terminal.
deeper-between : (levels seats : List ℕ) (p c : ℕ) → ascending levels ≡ true → p < length levels → deeper levels seats (get_or levels p 0) c ≡ true
    → Between p (length levels) (get_or seats (c - 1) 0)
deeper-between levels seats p c a h d q e =
    let k : get_or levels p 0 < get_or levels q 0 = ltb-true _ _ (sym (deeper-seat levels seats (get_or levels p 0) c q e) ∙ d) in
    let l : q < length levels = ⊎_elim (λ z. absurd (omega (arith, get_or-eq_default levels 0 z))) (λ z. z) (split q (length levels)) in
    (⊎_elim (λ z. absurd (omega (arith, ascending-order levels a q p z h))) (λ z. z) (split p q), l)

-- a byte, escaped or not
byte_reads : (f : List ℕ) (b : ℕ) → Reads f (byte_at f) (escaped b) b
byte_reads f b = record { back = λ at r h. escaped-reads f at b r h }

module _ (count : ℕ) (levels seats : List ℕ) (n : ℕ) (a : ascending levels ≡ true) (few : length levels ≤ 2 ^ 64) (small : n < 2 ^ 64)
    (f : List ℕ) where
  -- a terminal line
  terminal-reads : Reads f (bin_line_at count levels seats n f) (escaped 0x00) terminal
  unfolding bin_line_at code_of
  terminal-reads = record { back = λ at r h. rw (escaped-reads f at 0x00 r h) }

  -- an inner line
  module _ (p : ℕ) (t e : ℤ) (plain : t ≡ pos (nat_abs t)) (j : Inner levels seats n p t e) where
    -- the seat that the variable may count down from
    abbrev seat : ℕ
    seat = smaller (get_or seats (nat_abs t - 1) 0) (get_or seats (nat_abs e - 1) 0)

    -- its line lies deeper, if there is one
    between : Between p (length levels) seat
    between =
        smaller-between p (length levels) (get_or seats (nat_abs t - 1) 0) (get_or seats (nat_abs e - 1) 0)
        (deeper-between levels seats p (nat_abs t) a j.position j.then.deep)
        (deeper-between levels seats p (nat_abs e) a j.position j.els.deep)

    -- the codes, and the number that is read for the variable
    abbrev code : Code
    code = variable_code p seat

    abbrev then_code : Code
    then_code = child_code n (nat_abs t)

    abbrev else_code : Code
    else_code = child_code n (nat_abs e)

    abbrev number : ℕ
    number = number_read code p (seat - 1 - p)

    -- With both children read the line is placed.
    resolved-back : (next : ℕ) → resolved count levels seats code number (minus e) (nat_abs t) (nat_abs e) next ≡ got (inner p t e) next
    resolved-back next =
        rw (
          variable-leads p (length levels) seat _ between (counts-smaller count (get_or seats (nat_abs t - 1) 0) (get_or seats (nat_abs e - 1) 0)),
          lt-ltb p (length levels) j.position,
          j.then.deep,
          j.els.deep,
          edge-signed e,
          ← plain,
        )

    -- else's number
    else-reads : Reads f (λ at. then (child_at else_code n f at) (λ c next. resolved count levels seats code number (minus e) (nat_abs t) c next))
        (number_for else_code (nat_abs e) (n - nat_abs e)) (inner p t e)
    else-reads = record { back = λ at r h. rw ((child-reads f n (nat_abs e) j.els.some j.els.below small).back at r h) (resolved-back _) }

    -- the numbers, one after the other
    numbers-read : Reads f
        (λ at. then (variable_at code f at)
        (λ v at₁. then (child_at then_code n f at₁)
        (λ c at₂. then (child_at else_code n f at₂)
        (λ d next. resolved count levels seats code v (minus e) c d next))))
        (number_for code p (seat - 1 - p) ++ (number_for then_code (nat_abs t) (n - nat_abs t) ++ number_for else_code (nat_abs e) (n - nat_abs e)))
        (inner p t e)
    numbers-read =
        reads_then _
        (variable-reads f code p (seat - 1 - p) (omega (arith, j.position)) (omega (arith, between-small p (length levels) seat j.position between)))
        (reads_then _ (child-reads f n (nat_abs t) j.then.some j.then.below small) else-reads)

    -- the code byte, which stands before them
    abbrev byte : ℕ
    byte = code_byte code then_code (minus e) else_code

    -- what it says of them
    code_reads : Reads f (λ at. by_code count levels seats n f byte (code_of (byte / 32)) at)
        (number_for code p (seat - 1 - p) ++ (number_for then_code (nat_abs t) (n - nat_abs t) ++ number_for else_code (nat_abs e) (n - nat_abs e)))
        (inner p t e)
    code_reads =
        record {
          back = λ at r h.
              rw (byte-variable code then_code else_code (minus e))
              (variable-inner p seat count levels seats n f byte at
              ∙ rw (byte-then code then_code else_code (minus e), byte-complement code then_code else_code (minus e), byte-else code then_code else_code (minus e))
              (numbers-read.back at r h));
        }

    -- all of the line
    inner-reads : Reads f (bin_line_at count levels seats n f) (inner_bytes n p t e seat) (inner p t e)
    unfolding bin_line_at inner_bytes
    inner-reads = reads_then _ (byte_reads f byte) code_reads

  -- A line that is written by the seats of all lines is read by those of the lines before, where these are the same.
  pub bin-line-back : (all : List ℕ) → ((c : ℕ) → 1 ≤ c → c < n → get_or all (c - 1) 0 ≡ get_or seats (c - 1) 0)
      → (l : Line) → ThenPlain l → Judged levels seats n l → Reads f (bin_line_at count levels seats n f) (bin_bytes all n l) l
  unfolding bin_bytes
  bin-line-back all same terminal plain j = terminal-reads
  bin-line-back all same (inner p t e) plain j =
      rw (same (nat_abs t) j.then.some j.then.below, same (nat_abs e) j.els.some j.els.below) (inner-reads p t e plain j)
